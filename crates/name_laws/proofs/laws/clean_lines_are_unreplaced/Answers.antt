use Rattle.name_laws.proofs.Lines.{clean_lines_are_unreplaced}
use Rattle.name_laws.proofs.laws.clean_lines_are_unreplaced.Goals as goal

pub returns : goal.returns
returns c = clean_lines_are_unreplaced
