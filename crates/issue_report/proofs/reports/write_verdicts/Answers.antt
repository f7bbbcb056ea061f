use Rattle.std.proofs.Common.{arith}
use Rattle.std.proofs.lemmas.Result.{on_ok_weaker}
use Rattle.issue_report.specs.Reports.{verdict_line, verdict_count_line}
use Rattle.issue_report.proofs.Ascii.{of_end, of_verdict_count}
use Rattle.issue_report.proofs.reports.write_verdicts.Goals as goal

pub returns-clause-ascii : goal.returns-clause-ascii
returns-clause-ascii c =
    let verdicts = c.args.verdicts.now in
    let count = of_verdict_count verdicts (omega arith) in
    let all = of_end (verdict_line c.args.names.now) verdicts c.loop-verdict.verdict-index (verdict_count_line verdicts) c.loop-verdict-test.false c.loop-verdict.invariant.1 count in
    on_ok_weaker c.write_verdict_count.result (λ e. all) c.write_verdict_count.ensures
