use Rattle.name_laws.proofs.Fields.{fields_are_written}
use Rattle.name_laws.proofs.laws.fields_are_written.Goals as goal

pub returns : goal.returns
returns c = fields_are_written
