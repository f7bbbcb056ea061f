use Rattle.std.proofs.Common.{[], ◌∷◌}
use Rattle.statement_forms.specs.LineForms.{block_if, else_if, words_alone, select_head, case_items}
use Rattle.statement_forms.proofs.Choosing.{chosen, last_chosen}
use Rattle.statement_forms.proofs.meanings.branch_forms.Goals as goal

pub returns : goal.returns
returns c =
    let r3 = last_chosen case_items c.args.tokens.now c.case_items.result c.case_items.ensures in
    let r2 = chosen select_head (case_items ∷ []) c.args.tokens.now c.select_head.result c.case_items.result c.first_found-last.result c.select_head.ensures r3 c.first_found-last.ensures in
    let r1 = chosen words_alone (select_head ∷ case_items ∷ []) c.args.tokens.now c.words_alone.result c.first_found-last.result c.first_found-words.result c.words_alone.ensures r2 c.first_found-words.ensures in
    let r0 = chosen else_if (words_alone ∷ select_head ∷ case_items ∷ []) c.args.tokens.now c.else_if.result c.first_found-words.result c.first_found-parted.result c.else_if.ensures r1 c.first_found-parted.ensures in
    chosen block_if (else_if ∷ words_alone ∷ select_head ∷ case_items ∷ []) c.args.tokens.now c.block_if.result c.first_found-parted.result c.first_found.result c.block_if.ensures r0 c.first_found.ensures
