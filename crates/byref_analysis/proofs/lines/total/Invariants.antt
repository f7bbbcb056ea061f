use Rattle.std.proofs.Common.{◌≡◌, ◌+◌, map, drop}
use Rattle.vb_tree.specs.View.{bounds_of}
use Rattle.bound_facts.specs.Parts.{total}
use Rattle.byref_analysis.proofs.lines.total.Given as goal

abbrev pub invariant-loop-b : goal.invariant-loop-b
invariant-loop-b l = l.sum + total (map bounds_of (drop l.b-index l.bounds)) ≡ total (map bounds_of l.bounds)
