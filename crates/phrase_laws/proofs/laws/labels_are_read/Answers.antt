use Rattle.phrase_laws.proofs.Numbers.{label_reads}
use Rattle.phrase_laws.proofs.laws.labels_are_read.Goals as goal

pub returns : goal.returns
returns c = label_reads
