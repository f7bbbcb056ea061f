use Rattle.name_laws.proofs.OwnsKept.{owns_are_kept}
use Rattle.name_laws.proofs.laws.owns_are_kept.Goals as goal

pub returns : goal.returns
returns c = owns_are_kept
