use Rattle.vb_lines.specs.Modules.{IsFirstFault}
use Rattle.vb_lines.specs.Parts.{all_parts}
use Rattle.vb_lines.specs.Reading.{FaultOfParts}
use Rattle.vb_lines.proofs.Passing.{fault_passed}
use Rattle.vb_lines.proofs.Taking.{module_fault, fault_answered}
use Rattle.vb_lines.proofs.module.read_body.Goals as goal

pub returns-in_err-take_lines : goal.returns-in_err-take_lines
returns-in_err-take_lines c =
    let parts = all_parts c.args.body.now in
    fault_answered c.args.entry.now c.args.file c.args.body.now c.in_err-take_lines.field-0.0 c.from_residual.result c.from_residual.ensures.1
    (fault_passed
    (λ f. FaultOfParts parts c.new-build.result f)
    (λ f. IsFirstFault parts f)
    c.take_lines.result c.from_residual.result c.in_err-take_lines.field-0.0 c.in_err-take_lines.was c.from_residual.ensures.1
    (λ f p. module_fault parts c.new-build.result f c.new-build.ensures p)
    c.take_lines.ensures.fault)

pub returns : goal.returns
returns c = c.closed_module.ensures c.args.body.now c.new-build.result c.new-build.ensures c.in_ok-take_lines.ensures.ok c.in_ok-comments.ensures
