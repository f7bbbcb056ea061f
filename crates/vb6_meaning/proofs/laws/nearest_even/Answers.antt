use Rattle.vb6_meaning.proofs.Nearest.{nearest_even}
use Rattle.vb6_meaning.proofs.laws.nearest_even.Goals as goal

pub returns : goal.returns
returns c = nearest_even
