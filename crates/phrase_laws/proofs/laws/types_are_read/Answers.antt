use Rattle.phrase_laws.proofs.TypesRead.{type_reads}
use Rattle.phrase_laws.proofs.laws.types_are_read.Goals as goal

pub returns : goal.returns
returns c = type_reads
