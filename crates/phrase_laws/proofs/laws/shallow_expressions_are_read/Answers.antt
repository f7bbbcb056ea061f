use Rattle.phrase_laws.proofs.ReadBack.{shallow_expression_reads}
use Rattle.phrase_laws.proofs.laws.shallow_expressions_are_read.Goals as goal

pub returns : goal.returns
returns c = shallow_expression_reads
