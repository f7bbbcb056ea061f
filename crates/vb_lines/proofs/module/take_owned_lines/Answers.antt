use Rattle.std.proofs.Common.{◌≤◌, ◌++◌, ◌∷◌, [], length, drop, sym, ap, ◌∙◌, subst, append_assoc, arith}
use Rattle.std.proofs.lemmas.List.{length-append}
use Rattle.vb_lines.specs.Parts.{parts_of, all_parts}
use Rattle.vb_lines.specs.Reading.{FaultOfParts}
use Rattle.vb_lines.proofs.Owned.{IsPassed, all_passed, still_passed, owned_more, comments_more, owned_fault}
use Rattle.vb_lines.proofs.Passing.{fault_passed}
use Rattle.vb_lines.proofs.module.take_owned_lines.Goals as goal

pub returns-in_err-take_line-clause-fault : goal.returns-in_err-take_line-clause-fault
returns-in_err-take_line-clause-fault c =
    let done = c.loop-line.yielded in
    let most = all_passed c.args.head c.loop-line.passed (length done) (omega (arith, c.if-passed-head.false)) c.loop-line.invariant.passed in
    fault_passed
    (λ f. FaultOfParts (parts_of c.in-Some.line) c.loop-line.build f)
    (λ f. FaultOfParts (all_parts (drop c.args.head c.args.lines.items)) c.args.build.now f)
    c.take_line.result c.from_residual.result c.in_err-take_line.field-0.0 c.in_err-take_line.was c.from_residual.ensures.1
    (λ f p. owned_fault c.args.head c.args.lines.items done c.next.new.self.rest.items c.in-Some.line c.args.build.now c.loop-line.build f
    (ap (λ ls. done ++ ls) (sym c.in-Some.ensures.steps.0) ∙ c.loop-line.invariant.parts) most c.loop-line.invariant.adds p)
    c.take_line.ensures.fault

pub loop-line-preserved : goal.loop-line-preserved
loop-line-preserved c =
    let done = c.loop-line.yielded in
    let here = c.loop-line.invariant in
    let passed : c.args.head ≤ c.loop-line.passed = omega (arith, c.if-passed-head.false) in
    let most = all_passed c.args.head c.loop-line.passed (length done) passed here.passed in
    record {
      parts = append_assoc done (c.in-Some.line ∷ []) c.next.new.self.rest.items ∙ ap (λ ls. done ++ ls) (sym c.in-Some.ensures.steps.0) ∙ here.parts;
      passed = subst (IsPassed c.args.head c.loop-line.passed) (sym (length-append done (c.in-Some.line ∷ []))) (still_passed c.args.head c.loop-line.passed (length done) passed here.passed);
      adds = owned_more c.args.head done c.in-Some.line c.args.build.now c.loop-line.build c.take_line.new.build most here.adds c.in_ok-take_line.ensures.ok;
      comments = comments_more c.args.head done c.in-Some.line c.args.comments.now c.loop-line.comments c.move_comment.new.comments most here.comments c.in_ok-move_comment.ensures;
    }
