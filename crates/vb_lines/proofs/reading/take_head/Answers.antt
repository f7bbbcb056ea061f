use Rattle.std.proofs.Common.{◌∷◌, [], ap, ◌∙◌}
use Rattle.vb_tree.specs.Tree.{Line}
use Rattle.vb_tree.specs.View.{form_of}
use Rattle.vb_lines.specs.Parts.{HeadGives}
use Rattle.vb_lines.specs.Reading.{FaultOfLines, FaultOfGiven}
use Rattle.vb_lines.proofs.Passing.{fault_passed, head_fault, head_deep}
use Rattle.vb_lines.proofs.reading.take_head.Goals as goal

pub returns-in_err-add_line-in-Ok-clause-fault : goal.returns-in_err-add_line-in-Ok-clause-fault
returns-in_err-add_line-in-Ok-clause-fault c =
    let text = c.args.text.now in
    let tokens = c.args.tokens.now in
    let form = form_of c.in-Ok.form.value in
    let l : Line = record { place = c.args.place; text = c.in_ok-own-in-Ok.own; form = form } in
    fault_passed
    (λ f. FaultOfLines (l ∷ []) c.args.place c.args.build.now f)
    (λ f. FaultOfGiven (λ s o. HeadGives s c.args.place text tokens o) c.args.place c.args.build.now f)
    c.add_line.result c.from_residual-in_err-add_line-in-Ok.result c.in_err-add_line-in-Ok.field-0.0 c.in_err-add_line-in-Ok.was c.from_residual-in_err-add_line-in-Ok.ensures.1
    (λ f p. head_fault c.args.place text tokens form c.args.build.now c.spot.result l f (ap (λ own. record { place = c.args.place; text = own; form = form }) (c.in_ok-own-in-Ok.ensures ∙ c.text_of.ensures)) c.spot.ensures c.in-Ok.ensures p)
    c.add_line.ensures.fault

pub returns-in-Err-TooDeep-clause-fault : goal.returns-in-Err-TooDeep-clause-fault
returns-in-Err-TooDeep-clause-fault c =
    let forms = rw c.in-Err-TooDeep.field-0-is at c.in-Err-TooDeep.ensures in
    rw c.fault-in-Err-TooDeep.ensures
    (head_deep c.args.place c.args.text.now c.args.tokens.now c.args.build.now c.spot.result c.deep_fault.result c.spot.ensures forms c.deep_fault.ensures)
