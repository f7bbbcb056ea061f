-- The last of a list.
use Rattle.std.proofs.Common.{◌≡◌, List, [], ◌∷◌, ◌++◌, refl}
use Rattle.std.specs.Prelude.{Some}
use Rattle.vb_tree.specs.declared.declared.VarId.{VarId}
use Rattle.written_trees.specs.Puts.{last_of}

pub last_is : (xs : List VarId) (v : VarId) → last_of (xs ++ v ∷ []) ≡ Some v
last_is [] v = refl
last_is (x ∷ []) v = refl
last_is (x ∷ y ∷ xs) v = last_is (y ∷ xs) v
