use Rattle.name_laws.proofs.Lines.{clean_line_is_unreplaced}
use Rattle.name_laws.proofs.laws.clean_line_is_unreplaced.Goals as goal

pub returns : goal.returns
returns c = clean_line_is_unreplaced
