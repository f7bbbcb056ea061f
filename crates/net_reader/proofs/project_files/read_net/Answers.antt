use Rattle.std.proofs.Common.{subst}
use Rattle.net_reader.specs.ProjectReader.{project_in}
use Rattle.net_reader.specs.Reads.{Gives}
use Rattle.net_reader.proofs.ReadFiles.{is_readable, not_refused, stands, tells_place}
use Rattle.net_reader.proofs.project_files.read_net.Goals as goal

pub returns-clause-project : goal.returns-clause-project
returns-clause-project c = stands c.args.files.now c.read_files.result (subst (λ files. Gives (project_in files) c.read_files.result) c.as_slice.ensures c.read_files.ensures)

pub returns-clause-readable : goal.returns-clause-readable
returns-clause-readable c = is_readable c.args.files.now c.read_files.result (subst (λ files. Gives (project_in files) c.read_files.result) c.as_slice.ensures c.read_files.ensures)

pub returns-clause-place : goal.returns-clause-place
returns-clause-place c = tells_place c.args.files.now c.read_files.result (subst (λ files. Gives (project_in files) c.read_files.result) c.as_slice.ensures c.read_files.ensures)

pub returns-clause-complete : goal.returns-clause-complete
returns-clause-complete c = not_refused c.args.files.now c.read_files.result (returns-clause-place c)
