use Rattle.net_exprs.proofs.Words.{name_reads}
use Rattle.phrase_laws.proofs.laws.names_are_read.Goals as goal

pub returns : goal.returns
returns c = name_reads
