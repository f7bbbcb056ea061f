use Rattle.net_reader.proofs.ProjectsRead.{project_reads}
use Rattle.net_reader.proofs.laws.projects_are_read.Goals as goal

pub returns : goal.returns
returns c = project_reads
