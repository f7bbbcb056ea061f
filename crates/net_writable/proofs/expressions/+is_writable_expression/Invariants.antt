use Rattle.std.proofs.Common.{◌≡◌, drop}
use Rattle.net_tree.specs.Expressions.{are_writable_exps, are_writable_bounds}
use Rattle.net_tree.specs.View.{exps_of}
use Rattle.net_writable.proofs.expressions.+is_writable_expression.Given as goal

abbrev pub invariant-are_writable_expressions-loop-e : goal.invariant-are_writable_expressions-loop-e
invariant-are_writable_expressions-loop-e l = are_writable_exps (exps_of l.list) ≡ are_writable_exps (exps_of (drop l.e-index l.list))

abbrev pub invariant-are_writable_bounds-loop-e : goal.invariant-are_writable_bounds-loop-e
invariant-are_writable_bounds-loop-e l = are_writable_bounds (exps_of l.list) ≡ are_writable_bounds (exps_of (drop l.e-index l.list))
