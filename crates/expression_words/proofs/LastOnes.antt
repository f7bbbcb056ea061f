-- The last of the parameters, and those before it.
use Rattle.std.proofs.Common.{◌≡◌, List, [], ◌∷◌, ◌++◌, refl, ap}
use Rattle.vb_tree.specs.declared.declared.VarId.{VarId}
use Rattle.bound_tree.specs.Tree.{Declarations}
use Rattle.expression_words.specs.Members.{last_type, type_of_variable, without_last}

pub all_but_last : (rest : List VarId) (v : VarId) → without_last (rest ++ v ∷ []) ≡ rest
all_but_last [] v = refl
all_but_last (x ∷ []) v = refl
all_but_last (x ∷ y ∷ ys) v = ap (λ vs. x ∷ vs) (all_but_last (y ∷ ys) v)

pub last_one : (D : Declarations) (rest : List VarId) (v : VarId) → last_type D (rest ++ v ∷ []) ≡ type_of_variable D v
last_one D [] v = refl
last_one D (x ∷ []) v = refl
last_one D (x ∷ y ∷ ys) v = last_one D (y ∷ ys) v
