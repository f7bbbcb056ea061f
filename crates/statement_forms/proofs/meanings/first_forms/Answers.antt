use Rattle.std.proofs.Common.{[], ◌∷◌}
use Rattle.statement_forms.specs.LineForms.{print_items, print_kept, replacement, assignment, setting, calling}
use Rattle.statement_forms.proofs.Choosing.{chosen, last_chosen}
use Rattle.statement_forms.proofs.meanings.first_forms.Goals as goal

pub returns : goal.returns
returns c =
    let r4 = last_chosen calling c.args.tokens.now c.calling.result c.calling.ensures in
    let r3 = chosen setting (calling ∷ []) c.args.tokens.now c.setting.result c.calling.result c.first_found-last.result c.setting.ensures r4 c.first_found-last.ensures in
    let r2 = chosen assignment (setting ∷ calling ∷ []) c.args.tokens.now c.assignment.result c.first_found-last.result c.first_found-assigned.result c.assignment.ensures r3 c.first_found-assigned.ensures in
    let r1 = chosen replacement (assignment ∷ setting ∷ calling ∷ []) c.args.tokens.now c.replacement.result c.first_found-assigned.result c.first_found-replaced.result c.replacement.ensures r2 c.first_found-replaced.ensures in
    let r0 = chosen print_kept (replacement ∷ assignment ∷ setting ∷ calling ∷ []) c.args.tokens.now c.print_kept.result c.first_found-replaced.result c.first_found-kept.result c.print_kept.ensures r1 c.first_found-kept.ensures in
    chosen print_items (print_kept ∷ replacement ∷ assignment ∷ setting ∷ calling ∷ []) c.args.tokens.now c.print_items.result c.first_found-kept.result c.first_found.result c.print_items.ensures r0 c.first_found.ensures
