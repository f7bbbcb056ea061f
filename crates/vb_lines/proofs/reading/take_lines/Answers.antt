use Rattle.vb_lines.specs.Parts.{parts_of, all_parts}
use Rattle.vb_lines.specs.Reading.{FaultOfParts}
use Rattle.vb_lines.proofs.Passing.{fault_passed}
use Rattle.vb_lines.proofs.Taking.{first_left, lines_more, lines_fault_taken}
use Rattle.vb_lines.proofs.reading.take_lines.Goals as goal

pub loop-rest-preserved : goal.loop-rest-preserved
loop-rest-preserved c =
    lines_more c.args.lines.now c.loop-rest.rest.now _ c.first-item.result _ _ _
    (first_left c.loop-rest.rest.now c.first-item.result c.in-len1-up.len_at_least c.first-item.is) c.loop-rest.invariant c.in_ok-take_line.ensures.ok

pub returns-in_err-take_line-clause-fault : goal.returns-in_err-take_line-clause-fault
returns-in_err-take_line-clause-fault c =
    let x = c.first-item.result in
    fault_passed
    (λ f. FaultOfParts (parts_of x) c.loop-rest.build f)
    (λ f. FaultOfParts (all_parts c.args.lines.now) c.args.build.now f)
    c.take_line.result c.from_residual.result c.in_err-take_line.field-0.0 c.in_err-take_line.was c.from_residual.ensures.1
    (λ f p. lines_fault_taken c.args.lines.now c.loop-rest.rest.now _ x c.args.build.now c.loop-rest.build f
    (first_left c.loop-rest.rest.now x c.in-len1-up.len_at_least c.first-item.is) c.loop-rest.invariant p)
    c.take_line.ensures.fault
