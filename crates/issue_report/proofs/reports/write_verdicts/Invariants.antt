use Rattle.std.proofs.Common.{◌≡◌, ◌++◌, take}
use Rattle.std.specs.List.{flat_map}
use Rattle.std.specs.Str.{IsAscii}
use Rattle.issue_report.specs.Reports.{verdict_line}
use Rattle.issue_report.proofs.reports.write_verdicts.Given as goal

abbrev pub invariant-loop-verdict : goal.invariant-loop-verdict
invariant-loop-verdict l =
    let lines = flat_map (verdict_line l.names) (take l.verdict-index l.verdicts) in
    (l.out ≡ l.initial.out ++ lines) × IsAscii lines
