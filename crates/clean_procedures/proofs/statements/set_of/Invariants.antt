use Rattle.std.proofs.Common.{take}
use Rattle.clean_procedures.specs.Broken.{AreStatements}
use Rattle.clean_procedures.proofs.statements.set_of.Given as goal

abbrev pub invariant-loop-statement : goal.invariant-loop-statement
invariant-loop-statement l = AreStatements l.set (take l.statement-index l.list)
