use Rattle.std.proofs.Common.{◌≡◌, drop}
use Rattle.net_exprs.specs.Expressions.{operator_from}
use Rattle.net_exprs.proofs.starts.operator_from.Given as goal

abbrev pub invariant-loop-op : goal.invariant-loop-op
invariant-loop-op l = operator_from (drop l.op-index l.operators) l.text ≡ operator_from l.operators l.text
