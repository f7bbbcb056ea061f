-- The lower bounds and the rank of each array.
use Rattle.std.specs.Prelude.{◌≡◌, ◌≢◌, ℕ, suc, ℤ, pos, cond, nat_eq, List, [], ◌∷◌, ◌++◌, map, min}
use Rattle.std.specs.List.{Contains}
use Rattle.vb_tree.specs.declared.declared.VarId.{VarId}
use Rattle.bound_tree.specs.Tree.{Variable, Program}
use Rattle.bound_facts.specs.Bounds.{LowIs, RankIs}
use Rattle.bound_facts.specs.Node.{is_array_type}
use Rattle.array_bounds.specs.Known.{Known}

-- the variables of an array type, of variables that are numbered from k
abbrev pub arrays_from : ℕ → List Variable → List VarId
arrays_from k [] = []
arrays_from k (v ∷ vs) = cond (is_array_type v.ty) (record { 0 = k } ∷ []) [] ++ arrays_from (suc k) vs

abbrev pub arrays : Program → List VarId
arrays P = arrays_from 0 P.declarations.vars

-- the lower bound in the second dimension, and 0 where there is none
pub data SecondLowIs (P : Program) (a : ℕ) : ℤ → Type 0 where
  one_dimension : RankIs P a 1 → SecondLowIs P a (pos 0)
  two_dimensions : (r : ℕ) → RankIs P a r → r ≢ 1 → (z : ℤ) → LowIs P 1 a z → SecondLowIs P a z

-- each array once, in order, with its lower bounds
pub record AreLows (P : Program) (lows : List (VarId × ℤ × ℤ)) : Type 0 where
  pub arrays_are : map (λ (x : VarId × ℤ × ℤ). x.0) lows ≡ arrays P
  pub first_is : (x : VarId × ℤ × ℤ) → Contains lows x → LowIs P 0 x.0.0 x.1
  pub second_is : (x : VarId × ℤ × ℤ) → Contains lows x → SecondLowIs P x.0.0 x.2

-- each array once, in order, with its rank; one above 255 is kept as 255
pub record AreRanks (P : Program) (ranks : List (VarId × ℕ)) : Type 0 where
  pub arrays_are : map (λ (x : VarId × ℕ). x.0) ranks ≡ arrays P
  pub rank_is : (x : VarId × ℕ) → Contains ranks x → (r : ℕ) × RankIs P x.0.0 r × (x.1 ≡ min r 255)

-- ---- by the facts

abbrev pub second_low : Known → ℕ → ℤ
second_low F k = cond (nat_eq (F.rank k) 1) (pos 0) (F.low 1 k)

abbrev pub low_entry : Known → ℕ → List (VarId × ℤ × ℤ)
low_entry F k = (record { 0 = k }, F.low 0 k, second_low F k) ∷ []

abbrev pub low_item : Known → ℕ → Variable → List (VarId × ℤ × ℤ)
low_item F k v = cond (is_array_type v.ty) (low_entry F k) []

abbrev pub low_items : Known → ℕ → List Variable → List (VarId × ℤ × ℤ)
low_items F k [] = []
low_items F k (v ∷ vs) = low_item F k v ++ low_items F (suc k) vs

abbrev pub rank_entry : Known → ℕ → List (VarId × ℕ)
rank_entry F k = (record { 0 = k }, min (F.rank k) 255) ∷ []

abbrev pub rank_item : Known → ℕ → Variable → List (VarId × ℕ)
rank_item F k v = cond (is_array_type v.ty) (rank_entry F k) []

abbrev pub rank_items : Known → ℕ → List Variable → List (VarId × ℕ)
rank_items F k [] = []
rank_items F k (v ∷ vs) = rank_item F k v ++ rank_items F (suc k) vs
