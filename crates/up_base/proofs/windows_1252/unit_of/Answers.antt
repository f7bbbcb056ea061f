use Rattle.std.proofs.Common.{arith}
use Rattle.up_base.proofs.Units.{unit_at}
use Rattle.up_base.proofs.windows_1252.unit_of.Goals as goal

pub returns-in-128-to-159 : goal.returns-in-128-to-159
returns-in-128-to-159 c = unit_at c.args.byte _ (omega arith) (omega arith)
