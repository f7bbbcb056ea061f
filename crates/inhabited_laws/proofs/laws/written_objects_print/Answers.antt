use Rattle.inhabited_laws.proofs.ObjectsStated.{target_prints}
use Rattle.inhabited_laws.proofs.laws.written_objects_print.Goals as goal

pub returns : goal.returns
returns c = target_prints
