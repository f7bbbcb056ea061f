use Rattle.std.proofs.Common.{◌≡◌, ◌++◌, map, take}
use Rattle.broken_rules.specs.Further.{dropped_issue}
use Rattle.broken_rules.proofs.further.push_dropped.Given as goal

abbrev pub invariant-loop-line : goal.invariant-loop-line
invariant-loop-line l = l.to.items ≡ l.initial.to.items ++ map dropped_issue (take l.line-index l.lines)
