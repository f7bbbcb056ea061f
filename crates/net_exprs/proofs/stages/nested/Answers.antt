use Rattle.std.proofs.Common.{arith, le-ltb}
use Rattle.net_tree.specs.View.{type_name_of}
use Rattle.net_exprs.proofs.Staging.{ranks_misfit}
use Rattle.net_exprs.proofs.stages.nested.Goals as goal

pub returns-in_default-clause-misfits : goal.returns-in_default-clause-misfits
returns-in_default-clause-misfits c = λ e. ranks_misfit (type_name_of c.args.ty) c.args.ranks.now c.loop-rank.rank-index (omega arith) (le-ltb _ 256 (omega (arith, c.in_default.ensures)))
