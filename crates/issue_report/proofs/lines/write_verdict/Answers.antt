use Rattle.std.proofs.lemmas.Result.{on_ok_weaker}
use Rattle.issue_report.proofs.Ascii.{of_verdict_line}
use Rattle.issue_report.proofs.lines.write_verdict.Goals as goal

pub returns-clause-ascii : goal.returns-clause-ascii
returns-clause-ascii c =
    on_ok_weaker c.end_line.result (λ e. of_verdict_line c.args.names.now c.args.verdict.now c.in_ok-write_file_name.ensures.named c.in_ok-write_procedure_name.ensures.named) c.end_line.ensures
