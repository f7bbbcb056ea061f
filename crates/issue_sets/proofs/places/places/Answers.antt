use Rattle.std.proofs.Common.{refl}
use Rattle.issue_sets.proofs.places.places.Goals as goal

pub returns : goal.returns
returns c = rw (c.in_ok-lines.ensures, c.in_ok-heads.ensures, c.in_ok-vars.ensures, c.in_ok-consts.ensures, c.in_ok-types.ensures, c.in_ok-enums.ensures) refl
