use Rattle.std.proofs.Common.{◌≡◌, ◌++◌, map, take}
use Rattle.vb_tree.specs.View.{line_of}
use Rattle.written_facts.specs.Statements.{plain_set}
use Rattle.written_facts.proofs.statements.push_plain_sets.Given as goal

abbrev pub invariant-loop-line : goal.invariant-loop-line
invariant-loop-line l = l.to.items ≡ l.initial.to.items ++ map (plain_set l.name) (map (λ x. line_of x.now) (take l.line-index l.lines))
