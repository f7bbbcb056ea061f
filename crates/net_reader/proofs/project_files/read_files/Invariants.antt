use Rattle.std.proofs.Common.{◌≡◌, drop}
use Rattle.net_reader.specs.ProjectReader.{project_in, read_from}
use Rattle.net_reader.specs.Reads.{before_of}
use Rattle.net_reader.proofs.project_files.read_files.Given as goal

abbrev pub invariant-loop-file : goal.invariant-loop-file
invariant-loop-file l = read_from l.file (before_of l.before) (drop l.file l.files) ≡ project_in l.files
