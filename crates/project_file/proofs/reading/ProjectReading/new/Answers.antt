use Rattle.std.proofs.Common.{refl}
use Rattle.project_file.proofs.Saying.{nothing_said}
use Rattle.project_file.proofs.Steps.{nothing_read}
use Rattle.project_file.proofs.reading.ProjectReading.new.Goals as goal

pub returns : goal.returns
returns c = nothing_read _ refl (nothing_said _ refl refl c.new.ensures c.new-2.ensures refl refl)
