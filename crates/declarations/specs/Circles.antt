-- User types that hold themselves.
use Rattle.std.specs.Prelude.{ℕ, ◌≡◌, ◌↔◌, Bool, true, Option, Some, None, List, [], ◌∷◌, slice_get}
use Rattle.vb_tree.specs.BoundTree.{Ty, user, array}
use Rattle.vb_tree.specs.declared.declared.Owner.{Owner}
use Rattle.vb_tree.specs.declared.declared.Owner.TheVariants as owner
use Rattle.bound_tree.specs.Tree.{Variable}
use Rattle.bound_facts.specs.Leading.{LeadsTo}

abbrev pub user_of : Ty → Option ℕ
user_of (user t) = Some t
user_of _ = None

-- the user type of a variable or of its elements
abbrev pub user_in : Ty → Option ℕ
user_in (user t) = Some t
user_in (array ty rank) = user_of ty
user_in _ = None

abbrev pub pair_by : Owner → Option ℕ → Option (ℕ × ℕ)
pair_by (owner.Field t) (Some u) = Some (t.0, u)
pair_by _ _ = None

-- a Type and one that it holds by this field
abbrev pub pair_of : Variable → Option (ℕ × ℕ)
pair_of x = pair_by x.owner (user_in x.named)

abbrev pub pair_at : Option Variable → Option (ℕ × ℕ)
pair_at None = None
pair_at (Some x) = pair_of x

abbrev pub with_pair : Option (ℕ × ℕ) → List (ℕ × ℕ) → List (ℕ × ℕ)
with_pair None ps = ps
with_pair (Some p) ps = p ∷ ps

abbrev pub pairs_of : List Variable → List (ℕ × ℕ)
pairs_of [] = []
pairs_of (x ∷ xs) = with_pair (pair_of x) (pairs_of xs)

-- whether a field's type is its own, or one that holds its own
pub data IsCircle (types : ℕ) (pairs : List (ℕ × ℕ)) : Option (ℕ × ℕ) → Type 0 where
  circle : (t u : ℕ) → LeadsTo types pairs (t ∷ []) u → IsCircle types pairs (Some (t, u))

abbrev pub AreCircles : ℕ → List Variable → (ℕ → Bool) → Type 0
AreCircles types vars f = (k : ℕ) → (f k ≡ true) ↔ IsCircle types (pairs_of vars) (pair_at (slice_get vars k))
