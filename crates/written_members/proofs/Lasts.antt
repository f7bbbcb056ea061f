-- The last item of a list, and those before it.
use Rattle.std.proofs.Common.{◌≡◌, ◌-◌, ◌+◌, ℕ, suc, List, [], ◌∷◌, length, take, Option, Some, None, refl, ap, ◌∙◌, arith}
use Rattle.std.specs.Prelude.{slice_get}
use Rattle.vb_tree.specs.declared.declared.VarId.{VarId}
use Rattle.written_trees.specs.Heads.{without_last}
use Rattle.written_trees.specs.Puts.{last_of}

pub last_is : (vs : List VarId) → slice_get vs (length vs - 1) ≡ last_of vs
last_is [] = refl
last_is (v ∷ []) = refl
last_is (v ∷ w ∷ vs) = ap (slice_get (v ∷ w ∷ vs)) e ∙ last_is (w ∷ vs)
  where
    e : length (v ∷ w ∷ vs) - 1 ≡ suc (length (w ∷ vs) - 1)
    e = omega arith

pub without_last_is : (vs : List VarId) → take (length vs - 1) vs ≡ without_last vs
without_last_is [] = refl
without_last_is (v ∷ []) = refl
without_last_is (v ∷ w ∷ vs) = ap (λ n. take n (v ∷ w ∷ vs)) e ∙ ap (λ xs. v ∷ xs) (without_last_is (w ∷ vs))
  where
    e : length (v ∷ w ∷ vs) - 1 ≡ suc (length (w ∷ vs) - 1)
    e = omega arith
