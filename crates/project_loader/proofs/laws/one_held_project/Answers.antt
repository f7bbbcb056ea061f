use Rattle.project_loader.proofs.Unique.{project_once}
use Rattle.project_loader.proofs.laws.one_held_project.Goals as goal

pub returns : goal.returns
returns c = project_once
