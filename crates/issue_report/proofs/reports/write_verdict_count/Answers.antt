use Rattle.std.specs.Prelude.{codes}
use Rattle.std.proofs.Common.{length}
use Rattle.std.proofs.lemmas.Result.{on_ok_weaker}
use Rattle.up_base.specs.LineEnd.{line_end}
use Rattle.issue_report.specs.Reports.{count_text, clean_count}
use Rattle.issue_report.proofs.Pieces.{three_pieces}
use Rattle.issue_report.proofs.reports.write_verdict_count.Goals as goal

pub returns : goal.returns
returns c =
    let verdicts = c.args.verdicts.now in
    let procedures = count_text (codes "procedures: ") (length verdicts) in
    let clean = count_text (codes ", clean: ") (clean_count verdicts) in
    let counted = rw c.clean_count.ensures at c.in_ok-write_count-2.ensures in
    on_ok_weaker c.end_line.result (λ e. three_pieces c.args.out.now procedures clean line_end _ _ _ c.in_ok-write_count.ensures counted e) c.end_line.ensures
