use Rattle.std.proofs.Common.{map, Some, ap, ◌∙◌, sym}
use Rattle.vb_lines.specs.Building.{opens_of}
use Rattle.vb_lines.specs.Forms.{piece_of}
use Rattle.vb_lines.specs.Nesting.{fault_of}
use Rattle.vb_lines.specs.Parts.{piece_line, StatementGives, first_of}
use Rattle.vb_lines.specs.Reading.{FaultOfLines, FaultOfGiven}
use Rattle.vb_lines.proofs.Passing.{fault_passed, statement_fault, statement_deep}
use Rattle.vb_lines.proofs.reading.take_statement.Goals as goal

pub returns-in_err-add_pieces-in-Ok-clause-fault : goal.returns-in_err-add_pieces-in-Ok-clause-fault
returns-in_err-add_pieces-in-Ok-clause-fault c =
    let text = c.args.text.now in
    let tokens = c.args.tokens.now in
    let pieces = map piece_of c.in-Ok.pieces in
    fault_passed
    (λ f. FaultOfLines (map (piece_line c.args.place text tokens) pieces) c.args.place c.args.build.now f)
    (λ f. FaultOfGiven (λ s o. StatementGives s c.args.place text tokens o) c.args.place c.args.build.now f)
    c.add_pieces.result c.from_residual.result c.in_err-add_pieces-in-Ok.field-0.0 c.in_err-add_pieces-in-Ok.was c.from_residual.ensures.1
    (λ f p. statement_fault c.args.place text tokens pieces c.args.build.now c.spot-spot.result f c.spot-spot.ensures c.in-Ok.ensures p)
    c.add_pieces.ensures.fault

pub returns-in-Err-TooDeep-clause-fault : goal.returns-in-Err-TooDeep-clause-fault
returns-in-Err-TooDeep-clause-fault c =
    let forms = rw c.in-Err-TooDeep.field-0-is at c.in-Err-TooDeep.ensures in
    rw c.fault-in-Err-TooDeep.ensures
    (statement_deep c.args.place c.args.text.now c.args.tokens.now c.args.build.now c.spot-spot.result c.deep_fault.result c.spot-spot.ensures forms
    (ap (λ r. first_of (fault_of (opens_of c.args.build.now) r) (Some 14)) (sym c.role_at.ensures) ∙ c.deep_fault.ensures))
