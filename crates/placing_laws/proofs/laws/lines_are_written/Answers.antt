use Rattle.placing_laws.proofs.Lines.{lines_are_written}
use Rattle.placing_laws.proofs.laws.lines_are_written.Goals as goal

pub returns : goal.returns
returns c = lines_are_written c.same_aims.ensures c.same_tests.ensures
