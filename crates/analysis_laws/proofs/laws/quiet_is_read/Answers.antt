use Rattle.analysis_laws.proofs.Reading.{quiet_read}
use Rattle.analysis_laws.proofs.laws.quiet_is_read.Goals as goal

pub returns : goal.returns
returns c = quiet_read
