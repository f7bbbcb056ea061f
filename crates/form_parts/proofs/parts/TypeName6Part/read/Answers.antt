use Rattle.std.proofs.Common.{sym, ◌∙◌}
use Rattle.std.proofs.lemmas.Result.{err_from_is_err_and}
use Rattle.form_parts.proofs.Typing.{string_type_fails, no_type}
use Rattle.form_parts.proofs.parts.TypeName6Part.read.Goals as goal

pub returns-in_err-units-in-Some : goal.returns-in_err-units-in-Some
returns-in_err-units-in-Some c =
    let p = err_from_is_err_and c.from_residual.result c.from_residual.ensures.1 in
    rw (p.1, p.2) (string_type_fails c.args.tokens.now c.in-Some.rest.now c.in-Some.ensures _ c.in_err-units-in-Some.ensures)

pub returns-in-None-2 : goal.returns-in-None-2
returns-in-None-2 c = no_type c.args.tokens.now c.in-None.ensures (sym c.in_ok-name-in-None.ensures ∙ c.in-None-2.is)
