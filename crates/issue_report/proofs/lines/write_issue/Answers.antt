use Rattle.std.proofs.Common.{arith}
use Rattle.std.proofs.lemmas.Result.{on_ok_weaker}
use Rattle.issue_report.proofs.Ascii.{of_issue_line}
use Rattle.issue_report.proofs.lines.write_issue.Goals as goal

pub returns-clause-ascii : goal.returns-clause-ascii
returns-clause-ascii c =
    on_ok_weaker c.end_line.result (λ e. of_issue_line c.args.names.now c.args.issue c.in_ok-write_place.ensures.named (omega arith) (omega arith)) c.end_line.ensures
