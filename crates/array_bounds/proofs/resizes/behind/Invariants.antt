use Rattle.std.proofs.Common.{◌≡◌, map, drop}
use Rattle.vb_tree.specs.View.{bounds_of}
use Rattle.bound_tree.specs.View.{expr_of}
use Rattle.bound_facts.specs.Parts.{total}
use Rattle.array_bounds.proofs.resizes.behind.Given as goal

abbrev pub invariant-loop-b : goal.invariant-loop-b
invariant-loop-b l = drop (total (map bounds_of (drop l.b-index l.bounds))) (map expr_of l.rest) ≡ drop (total (map bounds_of l.bounds)) (map expr_of l.exprs)
