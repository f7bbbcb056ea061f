use Rattle.std.proofs.Common.{[], ◌∷◌}
use Rattle.statement_forms.specs.LineForms.{kept_words, computed_jump, invocation, drawing}
use Rattle.statement_forms.proofs.Choosing.{chosen, last_chosen}
use Rattle.statement_forms.proofs.meanings.last_forms.Goals as goal

pub returns : goal.returns
returns c =
    let r2 = last_chosen drawing c.args.tokens.now c.drawing.result c.drawing.ensures in
    let r1 = chosen invocation (drawing ∷ []) c.args.tokens.now c.invocation.result c.drawing.result c.first_found-last.result c.invocation.ensures r2 c.first_found-last.ensures in
    let r0 = chosen computed_jump (invocation ∷ drawing ∷ []) c.args.tokens.now c.computed_jump.result c.first_found-last.result c.first_found-computed.result c.computed_jump.ensures r1 c.first_found-computed.ensures in
    chosen kept_words (computed_jump ∷ invocation ∷ drawing ∷ []) c.args.tokens.now c.kept_words.result c.first_found-computed.result c.first_found.result c.kept_words.ensures r0 c.first_found.ensures
