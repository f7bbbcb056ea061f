use Rattle.inhabited_laws.proofs.ObjectsStated.{objects_run_the_same}
use Rattle.inhabited_laws.proofs.laws.objects_run_the_same.Goals as goal

pub returns : goal.returns
returns c = objects_run_the_same
