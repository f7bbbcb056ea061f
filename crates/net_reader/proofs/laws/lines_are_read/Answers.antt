use Rattle.net_reader.proofs.LinesRead.{line_reads}
use Rattle.net_reader.proofs.laws.lines_are_read.Goals as goal

pub returns : goal.returns
returns c = line_reads
