use Rattle.module_names.proofs.Projects.{named_project}
use Rattle.module_names.proofs.laws.named_project.Goals as goal

pub returns : goal.returns
returns c = named_project
