use Rattle.std.proofs.Common.{◌≡◌, ◌++◌, map, take}
use Rattle.std.specs.Prelude.{flat_map}
use Rattle.bound_tree.specs.View.{shown_line}
use Rattle.bound_facts.proofs.walk.push_procedure.Given as goal

abbrev pub invariant-loop-line : goal.invariant-loop-line
invariant-loop-line g l = l.to.items ≡ l.initial.to.items ++ flat_map (g.T.LineItems.items l.t l.i) (map shown_line (take l.line-index l.lines))
