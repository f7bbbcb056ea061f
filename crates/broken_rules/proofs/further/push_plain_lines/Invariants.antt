use Rattle.std.proofs.Common.{◌≡◌, ◌++◌, map, drop}
use Rattle.vb_tree.specs.View.{line_of}
use Rattle.broken_rules.specs.Further.{plain_lines_issues}
use Rattle.broken_rules.proofs.further.push_plain_lines.Given as goal

abbrev pub invariant-loop-line : goal.invariant-loop-line
invariant-loop-line l = l.to.items ++ plain_lines_issues l.name (map (λ x. line_of x.now) (drop l.line-index l.lines)) ≡ l.initial.to.items ++ plain_lines_issues l.name (map (λ x. line_of x.now) l.lines)
