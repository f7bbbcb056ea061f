use Rattle.std.proofs.Common.{[], ◌∷◌}
use Rattle.statement_forms.specs.LineForms.{jump, error_jump, resumption, redimming, erasing}
use Rattle.statement_forms.proofs.Choosing.{chosen, last_chosen}
use Rattle.statement_forms.proofs.meanings.jump_forms.Goals as goal

pub returns : goal.returns
returns c =
    let r3 = last_chosen erasing c.args.tokens.now c.erasing.result c.erasing.ensures in
    let r2 = chosen redimming (erasing ∷ []) c.args.tokens.now c.redimming.result c.erasing.result c.first_found-last.result c.redimming.ensures r3 c.first_found-last.ensures in
    let r1 = chosen resumption (redimming ∷ erasing ∷ []) c.args.tokens.now c.resumption.result c.first_found-last.result c.first_found-resumed.result c.resumption.ensures r2 c.first_found-resumed.ensures in
    let r0 = chosen error_jump (resumption ∷ redimming ∷ erasing ∷ []) c.args.tokens.now c.error_jump.result c.first_found-resumed.result c.first_found-handled.result c.error_jump.ensures r1 c.first_found-handled.ensures in
    chosen jump (error_jump ∷ resumption ∷ redimming ∷ erasing ∷ []) c.args.tokens.now c.jump.result c.first_found-handled.result c.first_found.result c.jump.ensures r0 c.first_found.ensures
