use Rattle.inhabited_laws.proofs.ObjectsWritten.{objects_are_written}
use Rattle.inhabited_laws.proofs.laws.objects_are_written.Goals as goal

pub returns : goal.returns
returns c = objects_are_written
