-- What types are of, and what user types hold.
use Rattle.std.specs.Prelude.{ℕ, suc, Bool, true, false, cond, ◌||◌, Option, Some, None, List, [], ◌∷◌, ◌++◌, length, slice_get}
use Rattle.std.specs.List.{flat_map, list_any}
use Rattle.vb_tree.specs.BoundTree.{Ty, fixed, user, array}
use Rattle.vb_tree.specs.BoundView.{type_of}
use Rattle.vb_tree.specs.declared.declared.VarId.{VarId}
use Rattle.bound_tree.specs.declared.declared.TypeDecl.{TypeDecl}
use Rattle.bound_tree.specs.Tree.{Variable, Declarations}
use Rattle.bound_facts.specs.Leading.{LeadsTo}
use Rattle.bound_facts.specs.Locks.{is_array_of, type_pairs, user_in}
use Rattle.bound_facts.specs.Node.{is_array_type}
use Rattle.array_bounds.specs.declared.types.Wanted.{Wanted}
use Rattle.array_bounds.specs.declared.types.Wanted.TheVariants as wanted

-- an array that is declared with its bounds
abbrev pub is_fixed_array : Ty → Bool
is_fixed_array (array ty (suc rank)) = true
is_fixed_array _ = false

abbrev pub is_fixed_string : Ty → Bool
is_fixed_string (fixed n) = true
is_fixed_string _ = false

-- a field of this type has to be made before its user type can be used
abbrev pub is_made : Ty → Bool
is_made ty = is_array_type ty || is_fixed_string ty

-- ---- fields

abbrev pub is_field_that : (Ty → Bool) → Option Variable → Bool
is_field_that test None = false
is_field_that test (Some v) = test v.ty

abbrev pub has_field : List Variable → (Ty → Bool) → List VarId → Bool
has_field vars test fields = list_any (λ (f : VarId). is_field_that test (slice_get vars f.0)) fields

abbrev pub number_if : ℕ → Bool → List ℕ
number_if t test = cond test (t ∷ []) []

-- the user types, numbered from t, with a field of a type that passes
abbrev pub those_from : List Variable → (Ty → Bool) → ℕ → List TypeDecl → List ℕ
those_from vars test t [] = []
those_from vars test t (d ∷ ds) = number_if t (has_field vars test d.fields) ++ those_from vars test (suc t) ds

-- a user type has a field of a type that passes, in itself or in the types of its fields
abbrev pub Holds : Declarations → (Ty → Bool) → ℕ → Type 0
Holds D test t = LeadsTo (length D.types) (type_pairs D) (those_from D.vars test 0 D.types) t

abbrev pub is_user_that : (ℕ → Bool) → Ty → Bool
is_user_that holds (user t) = holds t
is_user_that holds _ = false

-- ---- the same as the code goes over it

abbrev pub pair_with : ℕ → Option ℕ → List (ℕ × ℕ)
pair_with t None = []
pair_with t (Some u) = (t, u) ∷ []

abbrev pub user_of : Option Variable → Option ℕ
user_of None = None
user_of (Some v) = user_in v.ty

-- the pairs of a user type and those of its fields
abbrev pub field_pairs : List Variable → ℕ → List VarId → List (ℕ × ℕ)
field_pairs vars t fields = flat_map (λ (f : VarId). pair_with t (user_of (slice_get vars f.0))) fields

abbrev pub user_pairs : List Variable → ℕ → List TypeDecl → List (ℕ × ℕ)
user_pairs vars t [] = []
user_pairs vars t (d ∷ ds) = field_pairs vars t d.fields ++ user_pairs vars (suc t) ds

abbrev pub passes : Wanted → Ty → Bool
passes wanted.Array ty = is_array_type ty
passes wanted.Made ty = is_made ty
passes (wanted.ArrayOf e) ty = is_array_of (type_of e.now) ty
