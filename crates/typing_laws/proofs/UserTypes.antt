-- The shapes of user types: the fields that are declared, each of the shape of its type.
use Rattle.std.proofs.Common.{◌≡◌, ◌⊎◌, inl, inr, refl, sym, ap, ◌∙◌, subst, ℕ, zero, suc, ◌+◌, Bool, true, false, ◌&&◌, true≢false, List, [], ◌∷◌, Option, Some, None, arith}
use Rattle.std.specs.Prelude.{length, slice_get}
use Rattle.std.specs.List.{list_all}
use Rattle.up_base.proofs.Lists.{all_first, all_rest}
use Rattle.up_base.proofs.Tests.{both_true, either}
use Rattle.vb_tree.specs.BoundTree as types
use Rattle.vb_tree.specs.BoundTree.{Ty}
use Rattle.vb_tree.specs.declared.declared.VarId.{VarId}
use Rattle.bound_tree.specs.declared.declared.TypeDecl.{TypeDecl}
use Rattle.bound_tree.specs.Tree.{Declarations, Variable}
use Rattle.bound_facts.specs.Node.{is_array_type}
use Rattle.run_base.specs.Positions.{Position, inner}
use Rattle.vb6_run.specs.Shapes.{Shape, Shapes, no_shapes, next_shape, declared_shape, field_shapes, group_by, shape_at, shape_by, user_shape}
use Rattle.vb6_run.specs.Store.{Memory}
use Rattle.run_matches.specs.CoveredVariables.{are_different, covers_field, covers_field_type, covers_type, covers_user, covers_user_by, covers_user_within}
use Rattle.run_matches.specs.Pledges.{type_of_shape}
use Rattle.run_matches.specs.UserTypes.{field_names, is_user_of, type_leads}
use Rattle.typing_laws.specs.Frames.{AreInside, Fills, Ground}
use Rattle.typing_laws.specs.Plain as plain
use Rattle.typing_laws.specs.Plain.{AreShapesOf, IsShapeOf, array_shape, next_field, no_fields, scalar_shape}
use Rattle.typing_laws.proofs.Places.{not_none, some_is}
use Rattle.typing_laws.proofs.Plain.{shape_is}

-- ---- covered user types have the shapes of their declarations

no_scalar_array : (ty : Ty) → covers_type ty ≡ true → is_array_type ty ≡ false
no_scalar_array (types.array e rank) c = absurd (true≢false (sym c))
no_scalar_array _ c = refl

module _ (D : Declarations) where
  -- where those of fewer levels have them
  module _ (depth : ℕ) (inner_ones : (t : ℕ) → covers_user_within D depth t ≡ true → IsShapeOf D (types.user t) (user_shape D depth t)) where
    abbrev users : ℕ → Shape
    users t = user_shape D depth t

    user_field : (bounds : List _) (ty : Ty) → is_user_of (covers_user_within D depth) ty ≡ true → (is_array_type ty ≡ false) × IsShapeOf D ty (shape_by users bounds ty)
    user_field bounds (types.user t) c = (refl, inner_ones t c)
    user_field bounds _ c = absurd (true≢false (sym c))

    field_shape : (bounds : List _) (ty : Ty) → covers_field_type (covers_user_within D depth) ty ≡ true
        → (is_array_type ty ≡ false) × IsShapeOf D ty (shape_by users bounds ty)
    field_shape bounds ty c = by (either (covers_type ty) (is_user_of (covers_user_within D depth) ty) c)
      where
        by : (covers_type ty ≡ true) ⊎ (is_user_of (covers_user_within D depth) ty ≡ true) → (is_array_type ty ≡ false) × IsShapeOf D ty (shape_by users bounds ty)
        by (inl s) = (no_scalar_array ty s, subst (λ d. IsShapeOf D ty d) (sym (shape_is users bounds ty s)) (scalar_shape ty s))
        by (inr u) = user_field bounds ty u

    one_field : (v : VarId) (vs : List VarId) (fs : Shapes) (o : Option Variable) → slice_get D.vars v.0 ≡ o → covers_field (covers_user_within D depth) o ≡ true
        → AreShapesOf D vs fs → AreShapesOf D (v ∷ vs) (next_shape (declared_shape users o) fs)
    one_field v vs fs None is c rest = absurd (true≢false (sym c))
    one_field v vs fs (Some x) is c rest =
        let s = field_shape x.bounds x.ty c in
        next_field v vs x (shape_by users x.bounds x.ty) fs is s.0 s.1 rest

    abbrev passes : VarId → Bool
    passes v = covers_field (covers_user_within D depth) (slice_get D.vars v.0)

    all_fields : (vs : List VarId) → list_all passes vs ≡ true → AreShapesOf D vs (field_shapes D users vs)
    all_fields [] c = no_fields
    all_fields (v ∷ vs) c =
        one_field v vs (field_shapes D users vs) (slice_get D.vars v.0) refl (all_first passes v vs c) (all_fields vs (all_rest passes v vs c))

    one_type : (t : ℕ) (o : Option TypeDecl) → slice_get D.types t ≡ o → covers_user_by D (covers_user_within D depth) t o ≡ true
        → IsShapeOf D (types.user t) (group_by D users t o)
    one_type t None is c = absurd (true≢false (sym c))
    one_type t (Some d) is c =
        let a = both_true (type_leads D t d) (are_different (field_names D d) && list_all passes d.fields) c in
        plain.user_shape t d (field_shapes D users d.fields) is (all_fields d.fields (both_true (are_different (field_names D d)) (list_all passes d.fields) a.1).1)

  shape_within : (depth t : ℕ) → covers_user_within D depth t ≡ true → IsShapeOf D (types.user t) (user_shape D depth t)
  shape_within zero t c = absurd (true≢false (sym c))
  shape_within (suc depth) t c = one_type depth (λ u h. shape_within depth u h) t (slice_get D.types t) refl c

pub shape_of_user : (D : Declarations) (t : ℕ) → covers_user D t ≡ true → IsShapeOf D (types.user t) (user_shape D (length D.types) t)
shape_of_user D t c = shape_within D (length D.types) t c

-- what is no array is of the type of its shape
pub shape_type : (D : Declarations) (ty : Ty) (d : Shape) → IsShapeOf D ty d → is_array_type ty ≡ false → type_of_shape d ≡ ty
shape_type D _ _ (scalar_shape ty c) flat = refl
shape_type D _ _ (plain.user_shape t d fs is of) flat = refl
shape_type D _ _ (array_shape e rank bounds c) flat = absurd (true≢false flat)

-- ---- one field

-- the shape of a field, which has the type of its declaration
pub record FieldShape (D : Declarations) (v : VarId) (fs : Shapes) (k : ℕ) : Type 0 where
  pub variable : Variable
  pub is_variable : slice_get D.vars v.0 ≡ Some variable
  pub shape : Shape
  pub stands : shape_at fs k ≡ Some shape
  pub no_array : is_array_type variable.ty ≡ false
  pub fits : IsShapeOf D variable.ty shape

pub field_at : (D : Declarations) (vs : List VarId) (fs : Shapes) (k : ℕ) (v : VarId) → AreShapesOf D vs fs → slice_get vs k ≡ Some v → FieldShape D v fs k
field_at D _ _ k v no_fields at = absurd (not_none at)
field_at D _ _ zero v (next_field u vs x s fs is flat of rest) at = record {
  variable = x;
  is_variable = ap (λ (z : VarId). slice_get D.vars z.0) (sym (some_is at)) ∙ is;
  shape = s;
  stands = refl;
  no_array = flat;
  fits = of;
}
field_at D _ _ (suc k) v (next_field u vs x s fs is flat of rest) at =
    let f : FieldShape D v fs k = field_at D vs fs k v rest at in
    record { variable = f.variable; is_variable = f.is_variable; shape = f.shape; stands = f.stands; no_array = f.no_array; fits = f.fits }

-- where it stands
part_at : (K : Ground) (w : Memory) (fs : Shapes) (q : Position) (i k : ℕ) (s : Shape) → AreInside K w fs q i → shape_at fs k ≡ Some s
    → Fills K w (inner q (i + k)) (type_of_shape s) s
part_at K w no_shapes q i k s h at = absurd (not_none at)
part_at K w (next_shape d rest) q i zero s h at =
    subst (λ n. Fills K w (inner q n) (type_of_shape s) s) (let e : i ≡ i + 0 = omega arith in e)
    (subst (λ z. Fills K w (inner q i) (type_of_shape z) z) (some_is at) (h.0, h.1))
part_at K w (next_shape d rest) q i (suc k) s h at =
    subst (λ n. Fills K w (inner q n) (type_of_shape s) s) (let e : suc i + k ≡ i + suc k = omega arith in e) (part_at K w rest q (suc i) k s h.2 at)

pub field_stands : (K : Ground) (w : Memory) (fs : Shapes) (q : Position) (k : ℕ) (s : Shape) → AreInside K w fs q 0 → shape_at fs k ≡ Some s
    → Fills K w (inner q k) (type_of_shape s) s
field_stands K w fs q k s h at = subst (λ n. Fills K w (inner q n) (type_of_shape s) s) (let e : 0 + k ≡ k = omega arith in e) (part_at K w fs q 0 k s h at)
