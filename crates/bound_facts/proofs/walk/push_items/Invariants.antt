use Rattle.std.proofs.Common.{◌≡◌, ◌++◌, map, drop}
use Rattle.bound_tree.specs.Lines.{lines_of}
use Rattle.bound_facts.specs.Items.{items_from}
use Rattle.bound_facts.proofs.walk.push_items.Given as goal

abbrev pub invariant-loop-i : goal.invariant-loop-i
invariant-loop-i g l =
    l.initial.to.items ++ items_from (g.T.LineItems.items l.t) 0 (map lines_of l.lines) ≡ l.to.items ++ items_from (g.T.LineItems.items l.t) l.i (map lines_of (drop l.i l.lines))
