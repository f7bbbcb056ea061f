use Rattle.std.proofs.Common.{ap, sym, ◌∙◌}
use Rattle.std.specs.Prelude.{slice_get}
use Rattle.std.proofs.lemmas.Option.{same_Some}
use Rattle.net_tree.specs.View.{procedure_of}
use Rattle.support_text.specs.FixedFunctions.{fixed_functions}
use Rattle.support_text.specs.Rows.{row_procedure}
use Rattle.support_text.proofs.Placed.{row_placed}
use Rattle.support_text.proofs.procedures.procedure.Goals as goal

pub returns : goal.returns
returns c =
    same_Some (procedure_of c.in_ok-fixed_function.field-0) (row_procedure c.args.row)
    (sym c.in_ok-fixed_function.ensures ∙ ap (λ k. slice_get fixed_functions k) c.place.ensures ∙ row_placed c.args.row)
