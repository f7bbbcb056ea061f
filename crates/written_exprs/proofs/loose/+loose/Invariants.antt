use Rattle.std.proofs.Common.{◌≡◌, drop}
use Rattle.vb_tree.specs.View.{args_of}
use Rattle.written_trees.specs.LooseExprs.{loose_args}
use Rattle.written_exprs.specs.Lists.{exps_before}
use Rattle.written_exprs.proofs.loose.+loose.Given as goal

abbrev pub invariant-loose_args-loop-arg : goal.invariant-loose_args-loop-arg
invariant-loose_args-loop-arg l = exps_before l.list.items (loose_args (args_of (drop l.arg-index l.args))) ≡ loose_args (args_of l.args)
