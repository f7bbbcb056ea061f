use Rattle.row_laws.proofs.LibraryValues as library
use Rattle.row_laws.proofs.laws.same_middle.Goals as goal

pub returns : goal.returns
returns c = library.middle_same
