use Rattle.std.proofs.Common.{◌∷◌, []}
use Rattle.vb_lines.specs.Cuts.{cut_of, cuts_of}
use Rattle.vb_lines.specs.Parts.{parts_at}
use Rattle.vb_lines.specs.Reading.{FaultOfParts}
use Rattle.vb_lines.proofs.Passing.{fault_passed}
use Rattle.vb_lines.proofs.Taking.{first_left, cuts_more, cuts_fault_taken}
use Rattle.vb_lines.proofs.reading.take_cuts.Goals as goal

pub loop-rest-preserved : goal.loop-rest-preserved
loop-rest-preserved c =
    cuts_more c.args.place c.args.text.now c.args.cuts.now c.loop-rest.rest.now _ c.first-item.result _ _ _
    (first_left c.loop-rest.rest.now c.first-item.result c.in-len1-up.len_at_least c.first-item.is) c.loop-rest.invariant c.in_ok-take_cut.ensures.ok

pub returns-in_err-take_cut-clause-fault : goal.returns-in_err-take_cut-clause-fault
returns-in_err-take_cut-clause-fault c =
    let place = c.args.place in
    let text = c.args.text.now in
    let x = c.first-item.result in
    fault_passed
    (λ f. FaultOfParts (record { place = place; text = text; cut = cut_of x } ∷ []) c.loop-rest.build f)
    (λ f. FaultOfParts (parts_at place text (cuts_of c.args.cuts.now)) c.args.build.now f)
    c.take_cut.result c.from_residual.result c.in_err-take_cut.field-0.0 c.in_err-take_cut.was c.from_residual.ensures.1
    (λ f p. cuts_fault_taken place text c.args.cuts.now c.loop-rest.rest.now _ x c.args.build.now c.loop-rest.build f
    (first_left c.loop-rest.rest.now x c.in-len1-up.len_at_least c.first-item.is) c.loop-rest.invariant p)
    c.take_cut.ensures.fault
