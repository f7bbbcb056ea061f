use Rattle.std.proofs.Common.{◌≡◌, map, drop}
use Rattle.std.specs.List.{list_any}
use Rattle.bound_tree.specs.View.{declarations_of, expr_of}
use Rattle.object_rules.specs.Uses.{is_auto_use}
use Rattle.object_rules.proofs.uses.some_auto.Given as goal

abbrev pub invariant-loop-e : goal.invariant-loop-e
invariant-loop-e l = list_any (is_auto_use (declarations_of l.declared)) (map expr_of l.exprs) ≡ list_any (is_auto_use (declarations_of l.declared)) (map expr_of (drop l.e-index l.exprs))
