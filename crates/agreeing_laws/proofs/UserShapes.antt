-- The shapes of covered user types: how deep their fields are taken apart doesn't matter, and fields have the shapes of their types.
use Rattle.std.proofs.Common.{◌≡◌, refl, sym, ap, subst, ◌∙◌, ℕ, zero, suc, Bool, true, false, ◌&&◌, ◌||◌, List, [], ◌∷◌, length, map, Option, Some, None, slice_get, true≢false}
use Rattle.std.specs.List.{list_all}
use Rattle.std.specs.Prelude.{ℤ}
use Rattle.up_base.proofs.Tests.{and_true, both_true}
use Rattle.vb_tree.specs.BoundTree.{Ty}
use Rattle.vb_tree.specs.BoundTree as types
use Rattle.vb_tree.specs.declared.declared.VarId.{VarId}
use Rattle.bound_tree.specs.declared.declared.TypeDecl.{TypeDecl}
use Rattle.bound_facts.specs.Members.{at_option, type_fields, field_of}
use Rattle.bound_tree.specs.Tree.{Variable, Declarations}
use Rattle.vb6_run.specs.Shapes.{Shape, simple, group, array, endless, Shapes, next_shape, shape_at, shape_by, declared_shape, field_shapes, group_by, user_shape, user_shapes}
use Rattle.net_run.specs.Shapes as shape
use Rattle.run_matches.specs.CoveredVariables.{are_different, covers_field_type, covers_field, covers_group_type, covers_user_by, covers_user_within, covers_user}
use Rattle.run_matches.specs.Likeness.{SameShape, same_class, same_scalar}
use Rattle.run_matches.specs.Pledges.{type_of_shape}
use Rattle.run_matches.specs.SoundShapes.{IsClass}
use Rattle.run_matches.specs.UserTypes.{field_names, is_class_type, type_leads}
use Rattle.run_matches.specs.Addresses.{IsDeclaredShape}
use Rattle.run_matches.specs.Upgrades.{Upgrade, type_of_some}

-- ---- one level

-- what passes with some user types has the same shape with others that agree on these
module _ (D : Declarations) (test : ℕ → Bool) (first second : ℕ → Shape) (same : (u : ℕ) → test u ≡ true → first u ≡ second u) where
  type_same : (bounds : List (ℤ × ℤ)) (ty : Ty) → covers_field_type test ty ≡ true → shape_by first bounds ty ≡ shape_by second bounds ty
  type_same bounds types.boolean c = refl
  type_same bounds types.byte c = refl
  type_same bounds types.integer c = refl
  type_same bounds types.long c = refl
  type_same bounds types.currency c = refl
  type_same bounds types.str c = refl
  type_same bounds (types.user u) c = same u c
  type_same bounds _ c = absurd (true≢false (sym c))

  declared_same : (x : Option Variable) → covers_field test x ≡ true → declared_shape first x ≡ declared_shape second x
  declared_same None c = absurd (true≢false (sym c))
  declared_same (Some x) c = type_same x.bounds x.ty c

  fields_same : (vs : List VarId) → list_all (λ (v : VarId). covers_field test (slice_get D.vars v.0)) vs ≡ true
      → field_shapes D first vs ≡ field_shapes D second vs
  fields_same [] c = refl
  fields_same (v ∷ vs) c =
      let both = both_true (covers_field test (slice_get D.vars v.0)) (list_all (λ (u : VarId). covers_field test (slice_get D.vars u.0)) vs) c in
      ap (λ s. next_shape s (field_shapes D first vs)) (declared_same (slice_get D.vars v.0) both.0)
      ∙ ap (next_shape (declared_shape second (slice_get D.vars v.0))) (fields_same vs both.1)

  pub group_same : (t : ℕ) (d : Option TypeDecl) → covers_user_by D test t d ≡ true → group_by D first t d ≡ group_by D second t d
  group_same t None c = absurd (true≢false (sym c))
  group_same t (Some d) c =
      ap (group t)
      (fields_same d.fields
      (both_true (are_different (field_names D d)) (list_all (λ (v : VarId). covers_field test (slice_get D.vars v.0)) d.fields)
      (both_true (type_leads D t d) (are_different (field_names D d) && list_all (λ (v : VarId). covers_field test (slice_get D.vars v.0)) d.fields) c).1).1)

-- ---- all levels

-- what is covered down to a depth has its shape there, and one deeper
pub deeper_same : (D : Declarations) (n t : ℕ) → covers_user_within D n t ≡ true → user_shape D n t ≡ user_shape D (suc n) t
deeper_same D zero t c = absurd (true≢false (sym c))
deeper_same D (suc n) t c =
    group_same D (covers_user_within D n) (user_shape D n) (user_shape D (suc n)) (λ u e. deeper_same D n u e) t (slice_get D.types t) c

module _ (D : Declarations) (test other : ℕ → Bool) (weaker : (u : ℕ) → test u ≡ true → other u ≡ true) where
  type_more : (ty : Ty) → covers_field_type test ty ≡ true → covers_field_type other ty ≡ true
  type_more types.boolean c = refl
  type_more types.byte c = refl
  type_more types.integer c = refl
  type_more types.long c = refl
  type_more types.currency c = refl
  type_more types.str c = refl
  type_more (types.user u) c = weaker u c
  type_more _ c = absurd (true≢false (sym c))

  declared_more : (x : Option Variable) → covers_field test x ≡ true → covers_field other x ≡ true
  declared_more None c = absurd (true≢false (sym c))
  declared_more (Some x) c = type_more x.ty c

  fields_more : (vs : List VarId) → list_all (λ (v : VarId). covers_field test (slice_get D.vars v.0)) vs ≡ true
      → list_all (λ (v : VarId). covers_field other (slice_get D.vars v.0)) vs ≡ true
  fields_more [] c = refl
  fields_more (v ∷ vs) c =
      let both = both_true (covers_field test (slice_get D.vars v.0)) (list_all (λ (u : VarId). covers_field test (slice_get D.vars u.0)) vs) c in
      and_true (covers_field other (slice_get D.vars v.0)) (list_all (λ (u : VarId). covers_field other (slice_get D.vars u.0)) vs)
      (declared_more (slice_get D.vars v.0) both.0) (fields_more vs both.1)

  pub group_more : (t : ℕ) (d : Option TypeDecl) → covers_user_by D test t d ≡ true → covers_user_by D other t d ≡ true
  group_more t None c = absurd (true≢false (sym c))
  group_more t (Some d) c =
      let outer = both_true (type_leads D t d) (are_different (field_names D d) && list_all (λ (v : VarId). covers_field test (slice_get D.vars v.0)) d.fields) c in
      let inside = both_true (are_different (field_names D d)) (list_all (λ (v : VarId). covers_field test (slice_get D.vars v.0)) d.fields) outer.1 in
      and_true (type_leads D t d) (are_different (field_names D d) && list_all (λ (v : VarId). covers_field other (slice_get D.vars v.0)) d.fields) outer.0
      (and_true (are_different (field_names D d)) (list_all (λ (v : VarId). covers_field other (slice_get D.vars v.0)) d.fields) inside.0
      (fields_more d.fields inside.1))

pub deeper_covers : (D : Declarations) (n t : ℕ) → covers_user_within D n t ≡ true → covers_user_within D (suc n) t ≡ true
deeper_covers D zero t c = absurd (true≢false (sym c))
deeper_covers D (suc n) t c = group_more D (covers_user_within D n) (covers_user_within D (suc n)) (λ u e. deeper_covers D n u e) t (slice_get D.types t) c

-- ---- fields

-- a field of a covered user type, with its shape
pub record FieldShape (D : Declarations) (t k : ℕ) (ty : Ty) : Type 0 where
  pub shapes : Shapes
  pub is_group : user_shapes D t ≡ group t shapes
  pub is_shape : shape_at shapes k ≡ Some (shape_by (user_shapes D) [] ty)
  pub covers : covers_field_type (covers_user D) ty ≡ true

module _ (D : Declarations) (users : ℕ → Shape) where
  shape_of_field : (vs : List VarId) (k v : ℕ) → slice_get (map (λ (f : VarId). f.0) vs) k ≡ Some v
      → shape_at (field_shapes D users vs) k ≡ Some (declared_shape users (slice_get D.vars v))
  shape_of_field [] k v e = cc
  shape_of_field (f ∷ vs) zero v e = ap (λ z. Some (declared_shape users (slice_get D.vars z))) (the_number f.0 v e)
    where
      the_number : (a b : ℕ) → Some a ≡ Some b → a ≡ b
      the_number a b e = cc
  shape_of_field (f ∷ vs) (suc k) v e = shape_of_field vs k v e

module _ (D : Declarations) (test : ℕ → Bool) where
  covered_field : (vs : List VarId) (k v : ℕ) → slice_get (map (λ (f : VarId). f.0) vs) k ≡ Some v
      → list_all (λ (u : VarId). covers_field test (slice_get D.vars u.0)) vs ≡ true → covers_field test (slice_get D.vars v) ≡ true
  covered_field [] k v e c = cc
  covered_field (f ∷ vs) zero v e c =
      subst (λ z. covers_field test (slice_get D.vars z) ≡ true) (the_number f.0 v e)
      (both_true (covers_field test (slice_get D.vars f.0)) (list_all (λ (u : VarId). covers_field test (slice_get D.vars u.0)) vs) c).0
    where
      the_number : (a b : ℕ) → Some a ≡ Some b → a ≡ b
      the_number a b e = cc
  covered_field (f ∷ vs) (suc k) v e c =
      covered_field vs k v e
      (both_true (covers_field test (slice_get D.vars f.0)) (list_all (λ (u : VarId). covers_field test (slice_get D.vars u.0)) vs) c).1

module _ (D : Declarations) (n : ℕ) where
  -- a type of a field down to a depth has its shape in all
  type_whole : (bounds : List (ℤ × ℤ)) (ty : Ty) → covers_field_type (covers_user_within D n) ty ≡ true
      → shape_by (user_shape D n) bounds ty ≡ shape_by (user_shape D (suc n)) [] ty
  type_whole bounds types.boolean c = refl
  type_whole bounds types.byte c = refl
  type_whole bounds types.integer c = refl
  type_whole bounds types.long c = refl
  type_whole bounds types.currency c = refl
  type_whole bounds types.str c = refl
  type_whole bounds (types.user u) c = deeper_same D n u c
  type_whole bounds _ c = absurd (true≢false (sym c))

  declared_whole : (x : Option Variable) (ty : Ty) → type_of_some x ≡ Some ty → covers_field (covers_user_within D n) x ≡ true
      → (declared_shape (user_shape D n) x ≡ shape_by (user_shape D (suc n)) [] ty) × (covers_field_type (covers_user_within D (suc n)) ty ≡ true)
  declared_whole None ty e c = absurd (true≢false (sym c))
  declared_whole (Some x) ty e c =
      let is : x.ty ≡ ty = the_type x.ty ty e in (
        type_whole x.bounds x.ty c ∙ ap (shape_by (user_shape D (suc n)) []) is,
        type_more D (covers_user_within D n) (covers_user_within D (suc n)) (λ u z. deeper_covers D n u z) ty
            (subst (λ z. covers_field_type (covers_user_within D n) z ≡ true) is c),
      )
    where
      the_type : (a b : Ty) → Some a ≡ Some b → a ≡ b
      the_type a b e = cc

  -- what is asked for at one depth more, which is that of the declarations
  abbrev AtDepth : (t k : ℕ) → Ty → Type 0
  AtDepth t k ty =
      (fs : Shapes) × (user_shape D (suc n) t ≡ group t fs) × (shape_at fs k ≡ Some (shape_by (user_shape D (suc n)) [] ty))
      × (covers_field_type (covers_user_within D (suc n)) ty ≡ true)

  field_within : (t k v : ℕ) (ty : Ty) (d : Option TypeDecl) → slice_get D.types t ≡ d → covers_user_by D (covers_user_within D n) t d ≡ true
      → at_option (type_fields d) k ≡ Some v → type_of_some (slice_get D.vars v) ≡ Some ty → AtDepth t k ty
  field_within t k v ty None is c e f = absurd (true≢false (sym c))
  field_within t k v ty (Some d) is c e f =
      let outer =
      both_true (type_leads D t d)
      (are_different (field_names D d) && list_all (λ (u : VarId). covers_field (covers_user_within D n) (slice_get D.vars u.0)) d.fields) c in
      let inside =
      both_true (are_different (field_names D d)) (list_all (λ (u : VarId). covers_field (covers_user_within D n) (slice_get D.vars u.0)) d.fields) outer.1 in
      let whole = declared_whole (slice_get D.vars v) ty f (covered_field D (covers_user_within D n) d.fields k v e inside.1) in (
        field_shapes D (user_shape D n) d.fields,
        ap (group_by D (user_shape D n) t) is,
        shape_of_field D (user_shape D n) d.fields k v e ∙ ap (λ z. Some z) whole.0,
        whole.1,
      )

field_by : (D : Declarations) (n t k v : ℕ) (ty : Ty) → length D.types ≡ n → covers_user_within D n t ≡ true → field_of D (types.user t) k ≡ Some v
    → type_of_some (slice_get D.vars v) ≡ Some ty → FieldShape D t k ty
field_by D zero t k v ty is c e f = absurd (true≢false (sym c))
field_by D (suc n) t k v ty is c e f =
    let x : AtDepth D n t k ty = field_within D n t k v ty (slice_get D.types t) refl c e f in
    record {
      shapes = x.0;
      is_group = ap (λ m. user_shape D m t) is ∙ x.1;
      is_shape = x.2 ∙ ap (λ m. Some (shape_by (user_shape D m) [] ty)) (sym is);
      covers = subst (λ m. covers_field_type (covers_user_within D m) ty ≡ true) (sym is) x.3;
    }

-- a field of a covered user type has the shape of its type
pub field_shape_is : (D : Declarations) (t k v : ℕ) (ty : Ty) → covers_user D t ≡ true → field_of D (types.user t) k ≡ Some v
    → type_of_some (slice_get D.vars v) ≡ Some ty → FieldShape D t k ty
field_shape_is D t k v ty c e f = field_by D (length D.types) t k v ty refl c e f

-- ---- the type of a shape

type_by : (D : Declarations) (n t : ℕ) → covers_user_within D n t ≡ true → type_of_shape (user_shape D n t) ≡ types.user t
type_by D zero t c = absurd (true≢false (sym c))
type_by D (suc n) t c = by (slice_get D.types t) c
  where
    by : (d : Option TypeDecl) → covers_user_by D (covers_user_within D n) t d ≡ true → type_of_shape (group_by D (user_shape D n) t d) ≡ types.user t
    by None c = absurd (true≢false (sym c))
    by (Some d) c = refl

pub covered_type_of : (D : Declarations) (t : ℕ) → covers_user D t ≡ true → type_of_shape (user_shapes D t) ≡ types.user t
covered_type_of D t c = type_by D (length D.types) t c

-- a covered user type has the fields that it declares
declared_by : (U : Upgrade) (t : ℕ) (s : Shape) → user_shapes U.program.declarations t ≡ s → type_of_shape s ≡ types.user t → IsDeclaredShape U s
declared_by U t (simple ty) e of = tt
declared_by U t (array d bounds) e of = tt
declared_by U t endless e of = tt
declared_by U t (group u fs) e of = ap (user_shapes U.program.declarations) (the_number u t of) ∙ e
  where
    the_number : (a b : ℕ) → types.user a ≡ types.user b → a ≡ b
    the_number a b e = cc

pub declared_user : (U : Upgrade) (t : ℕ) → covers_user U.program.declarations t ≡ true → IsDeclaredShape U (user_shapes U.program.declarations t)
declared_user U t c = declared_by U t (user_shapes U.program.declarations t) refl (covered_type_of U.program.declarations t c)

-- ---- user types and classes

-- bounds are of arrays alone
pub group_unbounded : (D : Declarations) (bounds : List (ℤ × ℤ)) (ty : Ty) → covers_group_type D ty ≡ true
    → shape_by (user_shapes D) bounds ty ≡ shape_by (user_shapes D) [] ty
group_unbounded D bounds (types.user t) c = refl
group_unbounded D bounds (types.class k) c = refl
group_unbounded D bounds _ c = absurd (true≢false (sym c))

pub group_type_of : (D : Declarations) (ty : Ty) → covers_group_type D ty ≡ true → type_of_shape (shape_by (user_shapes D) [] ty) ≡ ty
group_type_of D (types.user t) c = covered_type_of D t c
group_type_of D (types.class k) c = refl
group_type_of D _ c = absurd (true≢false (sym c))

pub declared_group : (U : Upgrade) (ty : Ty) → covers_group_type U.program.declarations ty ≡ true
    → IsDeclaredShape U (shape_by (user_shapes U.program.declarations) [] ty)
declared_group U (types.user t) c = declared_user U t c
declared_group U (types.class k) c = tt
declared_group U _ c = absurd (true≢false (sym c))

pub class_shape : (users : ℕ → Shape) (bounds : List (ℤ × ℤ)) (ty : Ty) → is_class_type ty ≡ true → shape_by users bounds ty ≡ simple ty
class_shape users bounds (types.class k) c = refl
class_shape users bounds _ c = absurd (true≢false (sym c))

-- a class that a variable is written with is written
pub class_written : (U : Upgrade) (ty : Ty) (d : shape.Shape) → is_class_type ty ≡ true → SameShape U (simple ty) d → IsClass U ty
class_written U (types.class k) _ c (same_scalar _ t word) = cc word
class_written U (types.class k) _ c (same_class _ home is) = (k, home, refl, is)
class_written U _ _ c sh = absurd (true≢false (sym c))
