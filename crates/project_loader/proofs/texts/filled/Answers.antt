use Rattle.std.proofs.Common.{arith}
use Rattle.project_loader.proofs.Decoded.{filled_at}
use Rattle.project_loader.proofs.texts.filled.Goals as goal

pub returns-in-128-to-159-clause-filled : goal.returns-in-128-to-159-clause-filled
returns-in-128-to-159-clause-filled c = filled_at c.args.byte _ (omega arith) (omega arith)
