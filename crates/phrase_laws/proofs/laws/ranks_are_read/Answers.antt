use Rattle.phrase_laws.proofs.TypesRead.{rank_reads}
use Rattle.phrase_laws.proofs.laws.ranks_are_read.Goals as goal

pub returns : goal.returns
returns c = rank_reads
