-- The names of the fields of covered user types differ, so that each field is found by its name.
use Rattle.std.proofs.Common.{◌≡◌, refl, sym, ap, subst, ◌∙◌, ℕ, ◌<◌, ◌≤◌, zero, suc, Bool, true, false, not, ◌&&◌, ◌||◌, nat_eq, List, [], ◌∷◌, length, map, Option, Some, None, slice_get, eq-eqb, true≢false, arith}
use Rattle.std.specs.Cmp.Lexicographic.{pointwise}
use Rattle.std.specs.List.{list_all, list_any}
use Rattle.up_base.specs.Names.{is_same_name, lower_case}
use Rattle.up_base.proofs.Tests.{and_true, both_true}
use Rattle.vb_tree.specs.declared.declared.VarId.{VarId}
use Rattle.bound_facts.specs.Members.{at_option, type_fields, field_of}
use Rattle.bound_tree.specs.declared.declared.TypeDecl.{TypeDecl}
use Rattle.bound_tree.specs.Tree.{Declarations}
use Rattle.written_trees.specs.Names.{variable_name}
use Rattle.run_matches.specs.CoveredVariables.{are_different, is_named_in, covers_field, covers_user_by, covers_user_within, covers_user}
use Rattle.run_matches.specs.Upgrades.{Upgrade, field_name, field_variable}
use Rattle.run_matches.specs.UserTypes.{field_names, type_leads}
use Rattle.agreeing_laws.proofs.Fields.{IsFirstNamed}

units_same : (xs : List ℕ) → pointwise nat_eq xs xs ≡ true
units_same [] = refl
units_same (x ∷ xs) = and_true (nat_eq x x) (pointwise nat_eq xs xs) (eq-eqb x x refl) (units_same xs)

pub name_itself : (name : List ℕ) → is_same_name name name ≡ true
name_itself name = units_same (lower_case name)

not_true : (b : Bool) → not b ≡ true → b ≡ false
not_true true e = absurd (true≢false (sym e))
not_true false e = refl

neither : (a b : Bool) → (a || b) ≡ false → (a ≡ false) × (b ≡ false)
neither true b e = absurd (true≢false e)
neither false b e = (refl, e)

some_is : (a b : List ℕ) → Some a ≡ Some b → a ≡ b
some_is a b e = cc

none_is_named : (a b : List ℕ) (names : List (List ℕ)) (k : ℕ) → is_named_in a names ≡ false → slice_get names k ≡ Some b → is_same_name a b ≡ false
none_is_named a b [] k e f = cc
none_is_named a b (n ∷ names) zero e f =
    subst (λ z. is_same_name a z ≡ false) (some_is n b f) (neither (is_same_name a n) (list_any (is_same_name a) names) e).0
none_is_named a b (n ∷ names) (suc k) e f = none_is_named a b names k (neither (is_same_name a n) (list_any (is_same_name a) names) e).1 f

no_less : (j : ℕ) → j < 0 → ⊥
no_less j e = omega arith

less_one : (j k : ℕ) → suc j < suc k → j < k
less_one j k e = omega arith

-- of names that are all different
names_differ : (names : List (List ℕ)) (j k : ℕ) (a b : List ℕ) → are_different names ≡ true → j < k → slice_get names j ≡ Some a
    → slice_get names k ≡ Some b → is_same_name a b ≡ false
names_differ [] j k a b e lt f g = cc
names_differ (n ∷ names) j zero a b e lt f g = absurd (no_less j lt)
names_differ (n ∷ names) zero (suc k) a b e lt f g =
    subst (λ z. is_same_name z b ≡ false) (some_is n a f)
    (none_is_named n b names k (not_true (is_named_in n names) (both_true (not (is_named_in n names)) (are_different names) e).0) g)
names_differ (n ∷ names) (suc j) (suc k) a b e lt f g =
    names_differ names j k a b (both_true (not (is_named_in n names)) (are_different names) e).1 (less_one j k lt) f g

-- ---- the fields of a type

module _ (D : Declarations) where
  abbrev numbers : List VarId → List ℕ
  numbers vs = map (λ (f : VarId). f.0) vs

  abbrev names_of : List VarId → List (List ℕ)
  names_of vs = map (λ (f : VarId). variable_name D (Some f.0)) vs

  name_there : (vs : List VarId) (k v : ℕ) → slice_get (numbers vs) k ≡ Some v → slice_get (names_of vs) k ≡ Some (variable_name D (slice_get (numbers vs) k))
  name_there [] k v e = cc
  name_there (f ∷ vs) zero v e = refl
  name_there (f ∷ vs) (suc k) v e = name_there vs k v e

  -- what stands before an item is an item
  earlier : (vs : List VarId) (j k v : ℕ) → j < k → slice_get (numbers vs) k ≡ Some v → (u : ℕ) × (slice_get (numbers vs) j ≡ Some u)
  earlier [] j k v lt e = cc
  earlier (f ∷ vs) j zero v lt e = absurd (no_less j lt)
  earlier (f ∷ vs) zero (suc k) v lt e = (f.0, refl)
  earlier (f ∷ vs) (suc j) (suc k) v lt e = earlier vs j k v (less_one j k lt) e

  fields_differ : (vs : List VarId) (j k v : ℕ) → are_different (names_of vs) ≡ true → j < k → slice_get (numbers vs) k ≡ Some v
      → is_same_name (variable_name D (slice_get (numbers vs) j)) (variable_name D (slice_get (numbers vs) k)) ≡ false
  fields_differ vs j k v e lt f =
      let u = earlier vs j k v lt f in
      names_differ (names_of vs) j k (variable_name D (slice_get (numbers vs) j)) (variable_name D (slice_get (numbers vs) k)) e lt
      (name_there vs j u.0 u.1) (name_there vs k v f)

first_by : (U : Upgrade) (n t k v : ℕ) (d : Option TypeDecl) → slice_get U.program.declarations.types t ≡ d
    → covers_user_by U.program.declarations (covers_user_within U.program.declarations n) t d ≡ true → at_option (type_fields d) k ≡ Some v
    → IsFirstNamed U t 0 k
first_by U n t k v None is c e = absurd (true≢false (sym c))
first_by U n t k v (Some d) is c e = λ j le lt.
    let D : Declarations = U.program.declarations in
    let outer =
    both_true (type_leads D t d)
    (are_different (field_names D d) && list_all (λ (u : VarId). covers_field (covers_user_within D n) (slice_get D.vars u.0)) d.fields) c in
    let inside =
    both_true (are_different (field_names D d)) (list_all (λ (u : VarId). covers_field (covers_user_within D n) (slice_get D.vars u.0)) d.fields) outer.1 in
    subst (λ o. is_same_name (variable_name D (at_option (type_fields o) j)) (variable_name D (at_option (type_fields o) k)) ≡ false) (sym is)
    (fields_differ D d.fields j k v inside.0 lt e)

by_depth : (U : Upgrade) (n t k v : ℕ) → covers_user_within U.program.declarations n t ≡ true → field_variable U t k ≡ Some v → IsFirstNamed U t 0 k
by_depth U zero t k v c e = absurd (true≢false (sym c))
by_depth U (suc n) t k v c e = first_by U n t k v (slice_get U.program.declarations.types t) refl c e

-- no field before one has its name
pub is_first_named : (U : Upgrade) (t k v : ℕ) → covers_user U.program.declarations t ≡ true → field_variable U t k ≡ Some v → IsFirstNamed U t 0 k
is_first_named U t k v c e = by_depth U (length U.program.declarations.types) t k v c e
