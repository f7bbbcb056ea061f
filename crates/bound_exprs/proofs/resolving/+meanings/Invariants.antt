use Rattle.std.proofs.Common.{◌≡◌, ◌++◌, map, drop}
use Rattle.vb_tree.specs.View.{args_of}
use Rattle.expression_words.specs.View.{scope_of, supplied_of}
use Rattle.bound_exprs.specs.Resolved.{supplied}
use Rattle.bound_exprs.proofs.resolving.+meanings.Given as goal

abbrev pub invariant-supplied-loop-arg : goal.invariant-supplied-loop-arg
invariant-supplied-loop-arg l =
    map supplied_of l.all.items ++ supplied (scope_of l.scope) (args_of (drop l.arg-index l.args)) ≡ supplied (scope_of l.scope) (args_of l.args)
