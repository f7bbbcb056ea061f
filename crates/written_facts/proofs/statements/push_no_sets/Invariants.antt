use Rattle.std.proofs.Common.{◌≡◌, ◌++◌, map, take}
use Rattle.vb_tree.specs.View.{line_of}
use Rattle.written_facts.specs.Statements.{no_set}
use Rattle.written_facts.proofs.statements.push_no_sets.Given as goal

abbrev pub invariant-loop-line : goal.invariant-loop-line
invariant-loop-line l = l.to.items ≡ l.initial.to.items ++ map no_set (map line_of (take l._line-index l.lines))
