use Rattle.std.proofs.Common.{◌≡◌, map, drop}
use Rattle.std.specs.List.{list_any}
use Rattle.reach_table.specs.Chains.{is_marked}
use Rattle.vb_tree.specs.BoundView.{type_of}
use Rattle.bound_tree.specs.View.{shown}
use Rattle.bound_facts.specs.Locks.{makes_anew}
use Rattle.bound_facts.specs.Node.{type_at}
use Rattle.array_bounds.proofs.locks.some_makes_anew.Given as goal

abbrev pub invariant-loop-x : goal.invariant-loop-x
invariant-loop-x l =
    list_any (λ y. makes_anew (is_marked l.holds) (type_of l.e) (type_at y)) (map shown l.stores)
    ≡ list_any (λ y. makes_anew (is_marked l.holds) (type_of l.e) (type_at y)) (map shown (drop l.x-index l.stores))
