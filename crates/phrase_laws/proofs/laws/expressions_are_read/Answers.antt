use Rattle.phrase_laws.proofs.ReadBack.{expression_reads}
use Rattle.phrase_laws.proofs.laws.expressions_are_read.Goals as goal

pub returns : goal.returns
returns c = expression_reads
