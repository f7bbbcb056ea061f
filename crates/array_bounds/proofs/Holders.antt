-- The pairs of user types and the types that hold, as the code goes over them.
use Rattle.std.proofs.Common.{◌≡◌, ℕ, suc, Bool, List, [], ◌∷◌, ◌++◌, map, refl, ap, ◌∙◌, Some, None, slice_get}
use Rattle.std.specs.Prelude.{◌||◌, Option, option_to_list}
use Rattle.std.specs.List.{flat_map, list_any}
use Rattle.vb_tree.specs.BoundTree.{Ty}
use Rattle.vb_tree.specs.declared.declared.VarId.{VarId}
use Rattle.bound_tree.specs.declared.declared.TypeDecl.{TypeDecl}
use Rattle.bound_tree.specs.Tree.{Variable, Declarations}
use Rattle.bound_facts.specs.Locks.{holders_from, is_array_of, pairs_from, type_of_variable, type_pairs, user_in}
use Rattle.array_bounds.specs.Types.{field_pairs, has_field, is_field_that, number_if, pair_with, those_from, user_of, user_pairs}

abbrev paired : ℕ → List Ty → List (ℕ × ℕ)
paired t types = map (λ u. (t, u)) (flat_map (λ ty. option_to_list (user_in ty)) types)

-- one field in front of others
pair_first : (t : ℕ) (o : Option Variable) (types : List Ty) → paired t (type_of_variable o ++ types) ≡ pair_with t (user_of o) ++ paired t types
pair_first t None types = refl
pair_first t (Some v) types = by_user (user_in v.ty)
  where
    by_user : (u : Option ℕ) → map (λ n. (t, n)) (option_to_list u ++ flat_map (λ ty. option_to_list (user_in ty)) types) ≡ pair_with t u ++ paired t types
    by_user None = refl
    by_user (Some n) = refl

pairs_of_fields : (vars : List Variable) (t : ℕ) (fields : List VarId) → paired t (flat_map (λ (f : VarId). type_of_variable (slice_get vars f.0)) fields) ≡ field_pairs vars t fields
pairs_of_fields vars t [] = refl
pairs_of_fields vars t (f ∷ fs) =
    pair_first t (slice_get vars f.0) (flat_map (λ (g : VarId). type_of_variable (slice_get vars g.0)) fs)
    ∙ ap (λ (xs : List (ℕ × ℕ)). pair_with t (user_of (slice_get vars f.0)) ++ xs) (pairs_of_fields vars t fs)

pairs_of_types : (D : Declarations) (t : ℕ) (ds : List TypeDecl) → pairs_from D t ds ≡ user_pairs D.vars t ds
pairs_of_types D t [] = refl
pairs_of_types D t (d ∷ ds) =
    ap (λ (xs : List (ℕ × ℕ)). xs ++ pairs_from D (suc t) ds) (pairs_of_fields D.vars t d.fields) ∙ ap (λ (xs : List (ℕ × ℕ)). field_pairs D.vars t d.fields ++ xs) (pairs_of_types D (suc t) ds)

pub pairs_are : (D : Declarations) → type_pairs D ≡ user_pairs D.vars 0 D.types
pairs_are D = pairs_of_types D 0 D.types

-- ---- those that hold an array of a type

any_first : (test : Ty → Bool) (o : Option Variable) (types : List Ty) → list_any test (type_of_variable o ++ types) ≡ (is_field_that test o || list_any test types)
any_first test None types = refl
any_first test (Some v) types = refl

any_of_fields : (vars : List Variable) (test : Ty → Bool) (fields : List VarId) → list_any test (flat_map (λ (f : VarId). type_of_variable (slice_get vars f.0)) fields) ≡ has_field vars test fields
any_of_fields vars test [] = refl
any_of_fields vars test (f ∷ fs) =
    any_first test (slice_get vars f.0) (flat_map (λ (g : VarId). type_of_variable (slice_get vars g.0)) fs)
    ∙ ap (λ b. is_field_that test (slice_get vars f.0) || b) (any_of_fields vars test fs)

pub holders_are : (D : Declarations) (e : Ty) (t : ℕ) (ds : List TypeDecl) → holders_from D e t ds ≡ those_from D.vars (is_array_of e) t ds
holders_are D e t [] = refl
holders_are D e t (d ∷ ds) =
    ap (λ b. number_if t b ++ holders_from D e (suc t) ds) (any_of_fields D.vars (is_array_of e) d.fields)
    ∙ ap (λ (xs : List ℕ). number_if t (has_field D.vars (is_array_of e) d.fields) ++ xs) (holders_are D e (suc t) ds)
