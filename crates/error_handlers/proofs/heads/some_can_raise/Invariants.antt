use Rattle.std.proofs.Common.{◌≡◌, map, drop}
use Rattle.std.specs.List.{list_any}
use Rattle.bound_tree.specs.View.{declarations_of, expr_of}
use Rattle.bound_facts.specs.CanRaise.{head_can_raise}
use Rattle.error_handlers.proofs.heads.some_can_raise.Given as goal

abbrev pub invariant-loop-e : goal.invariant-loop-e
invariant-loop-e l =
    list_any (head_can_raise (declarations_of l.declared)) (map expr_of l.exprs) ≡ list_any (head_can_raise (declarations_of l.declared)) (map expr_of (drop l.e-index l.exprs))
