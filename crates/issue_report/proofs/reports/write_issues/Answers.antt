use Rattle.std.proofs.Common.{arith}
use Rattle.std.proofs.lemmas.Result.{on_ok_weaker}
use Rattle.issue_report.specs.Reports.{issue_line, issue_count_line}
use Rattle.issue_report.proofs.Ascii.{of_turn, of_end, of_issue_count}
use Rattle.issue_report.proofs.reports.write_issues.Goals as goal

pub loop-issue-preserved : goal.loop-issue-preserved
loop-issue-preserved c =
    let before = c.loop-issue.invariant in
    of_turn (issue_line c.args.names.now) c.args.issues.now c.loop-issue.issue-index (record { place = record { file = 0; line = 0 }; rule = 0 }) _ _ _ c.loop-issue-test.true before.0 before.1 c.in_ok-write_issue.ensures.text c.in_ok-write_issue.ensures.ascii

pub returns-clause-ascii : goal.returns-clause-ascii
returns-clause-ascii c =
    let issues = c.args.issues.now in
    let count = of_issue_count issues (omega arith) in
    let all = of_end (issue_line c.args.names.now) issues c.loop-issue.issue-index (issue_count_line issues) c.loop-issue-test.false c.loop-issue.invariant.1 count in
    on_ok_weaker c.write_issue_count.result (λ e. all) c.write_issue_count.ensures
