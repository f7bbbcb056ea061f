use Rattle.placing_laws.proofs.Lines.{no_further_lines}
use Rattle.placing_laws.proofs.laws.no_further_lines.Goals as goal

pub returns : goal.returns
returns c = no_further_lines
