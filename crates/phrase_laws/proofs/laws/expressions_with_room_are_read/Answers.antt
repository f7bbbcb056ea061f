use Rattle.phrase_laws.proofs.ReadBack.{roomy_expression_reads}
use Rattle.phrase_laws.proofs.laws.expressions_with_room_are_read.Goals as goal

pub returns : goal.returns
returns c = roomy_expression_reads
