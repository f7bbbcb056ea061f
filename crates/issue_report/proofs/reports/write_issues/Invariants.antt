use Rattle.std.proofs.Common.{◌≡◌, ◌++◌, take}
use Rattle.std.specs.List.{flat_map}
use Rattle.std.specs.Str.{IsAscii}
use Rattle.issue_report.specs.Reports.{issue_line}
use Rattle.issue_report.proofs.reports.write_issues.Given as goal

abbrev pub invariant-loop-issue : goal.invariant-loop-issue
invariant-loop-issue l =
    let lines = flat_map (issue_line l.names) (take l.issue-index l.issues) in
    (l.out ≡ l.initial.out ++ lines) × IsAscii lines
