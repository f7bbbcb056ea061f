use Rattle.std.proofs.Common.{rules, subst, List}
use Rattle.vb_tree.specs.declared.token.Token.{Token}
use Rattle.vb_lines.specs.Parts.{LabelGives, StatementGives}
use Rattle.vb_lines.specs.Reading.{FaultOfGiven}
use Rattle.vb_lines.proofs.Passing.{fault_passed, no_label_fault}
use Rattle.vb_lines.proofs.reading.take_label.Goals as goal

pub returns-in_err-take_statement-clause-fault : goal.returns-in_err-take_statement-clause-fault
returns-in_err-take_statement-clause-fault c =
    let text = c.args.text.now in
    fault_passed
    (λ f. FaultOfGiven (λ s o. StatementGives s c.args.place text c.from_ref.result.now o) c.args.place c.args.build.now f)
    (λ f. FaultOfGiven (λ s o. LabelGives s c.args.place text c.args.token.now o) c.args.place c.args.build.now f)
    c.take_statement.result c.from_residual-in_err-take_statement.result c.in_err-take_statement.field-0.0 c.in_err-take_statement.was c.from_residual-in_err-take_statement.ensures.1
    (λ f p. no_label_fault c.args.place text c.args.token.now c.args.build.now c.spot.result f c.spot.ensures (search rules)
    (subst (λ (ts : List Token). FaultOfGiven (λ s o. StatementGives s c.args.place text ts o) c.args.place c.args.build.now f) c.from_ref.ensures.value p))
    c.take_statement.ensures.fault
