use Rattle.net_exprs.proofs.Words.{path_reads}
use Rattle.phrase_laws.proofs.laws.paths_are_read.Goals as goal

pub returns : goal.returns
returns c = path_reads
