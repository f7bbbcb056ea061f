use Rattle.std.proofs.Common.{◌≡◌}
use Rattle.net_tree.specs.View.{exp_of, type_name_of}
use Rattle.net_exprs.specs.Stages.{object_calls}
use Rattle.net_exprs.proofs.stages.object_calls.Given as goal

abbrev pub invariant-loop-call : goal.invariant-loop-call
invariant-loop-call l = exp_of l.expr ≡ object_calls (type_name_of l.fn.ty) l._call
