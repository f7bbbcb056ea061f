-- Rounds over constants.
use Rattle.std.proofs.Common.{◌≡◌, ℕ, zero, suc, Bool, List, refl, ap, ◌∙◌}
use Rattle.bound_tree.specs.Tree.{Declarations}
use Rattle.declared_names.specs.Declaring.{NamedConstant}
use Rattle.declarations.specs.Constants.{round, rounds}

-- further rounds find nothing where one found nothing
pub rounds_end : (member : ℕ → Bool) (cs : List NamedConstant) (n : ℕ) (D : Declarations) → round member D 0 cs ≡ D → rounds member n cs D ≡ D
rounds_end member cs zero D e = refl
rounds_end member cs (suc n) D e = ap (rounds member n cs) e ∙ rounds_end member cs n D e
