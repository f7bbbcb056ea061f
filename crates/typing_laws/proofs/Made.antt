-- What variables begin with: a scalar with its first value, an array with as many first values as its bounds say, or none, and a user type with the
-- first values of its fields.
use Rattle.std.proofs.Common.{◌≡◌, ◌⊎◌, inl, inr, refl, sym, ap, ◌∙◌, subst, ℕ, zero, suc, ◌<◌, ◌*◌, ℤ, pos, negsuc, ◌-ℤ◌, Bool, true, false, not, ◌&&◌, ◌||◌, List, [], ◌∷◌, map, Some, true≢false, arith, lt-ltb}
use Rattle.std.proofs.lemmas.Bool.{lt-leb}
use Rattle.std.proofs.lemmas.Int.{ints}
use Rattle.std.specs.Prelude.{int_le, length, nat_eq, slice_get}
use Rattle.std.specs.List.{list_all}
use Rattle.up_base.proofs.Tests.{both_true, either}
use Rattle.vb_tree.specs.BoundTree as types
use Rattle.vb_tree.specs.BoundTree.{Ty}
use Rattle.bound_tree.specs.Tree.{Declarations, Variable}
use Rattle.bound_facts.specs.Locks.{is_same_type}
use Rattle.run_base.specs.Positions.{Position}
use Rattle.written_trees.specs.Types.{element_type}
use Rattle.vb6_run.specs.Shapes.{Shape, simple, group, array, endless, declared_shape, shape_by, user_shapes, variable_shape}
use Rattle.vb6_run.specs.Store.{Held, Memory, blank, laid, parts, single, table, with_held}
use Rattle.vb6_run.specs.Values.{Value, count_from, count_values, dimension_of, first_scalar, first_value, is_makeable, is_within_limits, product, repeated, scalar, size}
use Rattle.run_matches.specs.CoveredVariables.{covers_array_owner, covers_array_variable, covers_bounds, covers_type, covers_user, is_array_of, is_in_order}
use Rattle.run_matches.specs.UserTypes.{is_user, is_user_of}
use Rattle.run_matches.specs.Typed.{IsSized, no_elements, sized}
use Rattle.typing_laws.specs.Flat.{is_flat, is_flat_user}
use Rattle.typing_laws.specs.Typed.{is_unknown}
use Rattle.typing_laws.specs.Plain.{EachPlain, Holds, IsShapeOf, Plain, array_shape, holds_array, holds_parts, holds_scalar, next_plain, none_plain, scalar_shape, user_shape}
use Rattle.typing_laws.proofs.Plain.{first_plain, same_as, shape_is}
use Rattle.typing_laws.proofs.UserTypes.{shape_of_user}

-- ---- flat variables

-- an array of scalars
pub record IsArray (x : Variable) : Type 0 where
  pub element : Ty
  pub rank : ℕ
  pub is_type : x.ty ≡ types.array element rank
  pub covers : covers_type element ≡ true
  pub bounds : list_all is_in_order x.bounds ≡ true
  pub owned : covers_array_owner x.owner ≡ true

array_in : (x : Variable) (e ty : Ty) → x.ty ≡ ty → covers_array_owner x.owner ≡ true → covers_type e ≡ true → is_array_of e ty ≡ true
    → covers_bounds ty x.bounds ≡ true → IsArray x
array_in x e (types.array f rank) is o c a b = record {
  element = f;
  rank = rank;
  is_type = is;
  covers = subst (λ t. covers_type t ≡ true) (sym (same_as f e c (same_back e f c a))) c;
  bounds = (both_true (nat_eq (length x.bounds) rank) (list_all is_in_order x.bounds) b).1;
  owned = o;
}
  where
    same_back : (s t : Ty) → covers_type s ≡ true → is_same_type s t ≡ true → is_same_type t s ≡ true
    same_back types.boolean types.boolean c h = refl
    same_back types.byte types.byte c h = refl
    same_back types.integer types.integer c h = refl
    same_back types.long types.long c h = refl
    same_back types.currency types.currency c h = refl
    same_back types.str types.str c h = refl
    same_back _ _ c h = cc
array_in x e _ is o c a b = absurd (true≢false (sym a))

pub array_of : (x : Variable) (e : Ty) → covers_array_variable e x ≡ true → IsArray x
array_of x e h =
    let a = both_true (covers_array_owner x.owner) (covers_type e && (is_array_of e x.ty && (covers_bounds x.ty x.bounds && not x.auto))) h in
    let b = both_true (covers_type e) (is_array_of e x.ty && (covers_bounds x.ty x.bounds && not x.auto)) a.1 in
    let c = both_true (is_array_of e x.ty) (covers_bounds x.ty x.bounds && not x.auto) b.1 in
    array_in x e x.ty refl a.0 b.0 c.0 (both_true (covers_bounds x.ty x.bounds) (not x.auto) c.1).0

-- a variable that is covered as an array is flat
pub array_type : (x : Variable) (e : Ty) → covers_array_variable e x ≡ true → (rank : ℕ) × (x.ty ≡ types.array e rank)
array_type x e h =
    let a = both_true (covers_array_owner x.owner) (covers_type e && (is_array_of e x.ty && (covers_bounds x.ty x.bounds && not x.auto))) h in
    let b = both_true (covers_type e) (is_array_of e x.ty && (covers_bounds x.ty x.bounds && not x.auto)) a.1 in
    by x.ty refl b.0 (both_true (is_array_of e x.ty) (covers_bounds x.ty x.bounds && not x.auto) b.1).0
  where
    second : (s t : Ty) → covers_type s ≡ true → is_same_type s t ≡ true → t ≡ s
    second types.boolean types.boolean c h = refl
    second types.byte types.byte c h = refl
    second types.integer types.integer c h = refl
    second types.long types.long c h = refl
    second types.currency types.currency c h = refl
    second types.str types.str c h = refl
    second _ _ c h = cc

    by : (ty : Ty) → x.ty ≡ ty → covers_type e ≡ true → is_array_of e ty ≡ true → (rank : ℕ) × (x.ty ≡ types.array e rank)
    by (types.array f rank) is c a = (rank, is ∙ ap (λ t. types.array t rank) (second e f c a))
    by _ is c a = absurd (true≢false (sym a))

pub array_flat : (D : Declarations) (x : Variable) (e : Ty) → covers_array_variable e x ≡ true → is_flat D x ≡ true
array_flat D x e h =
    let t = array_type x e h in
    ap (λ b. covers_type x.ty || (b || is_flat_user D x)) (ap (λ s. covers_array_variable (element_type s) x) t.1 ∙ h) ∙ or_true (covers_type x.ty)
  where
    or_true : (b : Bool) → b || true ≡ true
    or_true true = refl
    or_true false = refl

-- a user type
pub record IsUserVariable (D : Declarations) (x : Variable) : Type 0 where
  pub user_type : ℕ
  pub is_type : x.ty ≡ types.user user_type
  pub covers : covers_user D user_type ≡ true

user_of : (D : Declarations) (x : Variable) → is_flat_user D x ≡ true → IsUserVariable D x
user_of D x h = by x.ty refl h
  where
    by : (ty : Ty) → x.ty ≡ ty → is_user_of (covers_user D) ty ≡ true → IsUserVariable D x
    by (types.user t) is c = record { user_type = t; is_type = is; covers = c }
    by _ is c = absurd (true≢false (sym c))

-- a flat variable is a scalar, an array or of a user type
abbrev pub FlatKind : Declarations → Variable → Type 0
FlatKind D x = (covers_type x.ty ≡ true) ⊎ (IsArray x ⊎ IsUserVariable D x)

pub flat_kinds : (D : Declarations) (x : Variable) → is_flat D x ≡ true → FlatKind D x
flat_kinds D x h = by (either (covers_type x.ty) (covers_array_variable (element_type x.ty) x || is_flat_user D x) h)
  where
    more : (covers_array_variable (element_type x.ty) x ≡ true) ⊎ (is_flat_user D x ≡ true) → FlatKind D x
    more (inl a) = inr (inl (array_of x (element_type x.ty) a))
    more (inr u) = inr (inr (user_of D x u))

    by : (covers_type x.ty ≡ true) ⊎ (covers_array_variable (element_type x.ty) x || is_flat_user D x ≡ true) → FlatKind D x
    by (inl c) = inl c
    by (inr a) = more (either (covers_array_variable (element_type x.ty) x) (is_flat_user D x) a)

-- no such variable is without a type
pub flat_known : (D : Declarations) (x : Variable) → is_flat D x ≡ true → is_unknown x.ty ≡ false
flat_known D x h = by (flat_kinds D x h)
  where
    known : (ty : Ty) → covers_type ty ≡ true → is_unknown ty ≡ false
    known types.unknown c = absurd (true≢false (sym c))
    known _ c = refl

    by : FlatKind D x → is_unknown x.ty ≡ false
    by (inl c) = known x.ty c
    by (inr (inl a)) = ap is_unknown a.is_type
    by (inr (inr u)) = ap is_unknown u.is_type

pub scalar_flat : (D : Declarations) (x : Variable) → covers_type x.ty ≡ true → is_flat D x ≡ true
scalar_flat D x c = ap (λ b. b || (covers_array_variable (element_type x.ty) x || is_flat_user D x)) c

-- ---- shapes

pub shape_of_variable : (D : Declarations) (v : ℕ) (x : Variable) → slice_get D.vars v ≡ Some x → is_flat D x ≡ true → IsShapeOf D x.ty (variable_shape D v)
shape_of_variable D v x is h =
    subst (λ o. IsShapeOf D x.ty (declared_shape (user_shapes D) o)) (sym is) (by (flat_kinds D x h))
  where
    by : FlatKind D x → IsShapeOf D x.ty (shape_by (user_shapes D) x.bounds x.ty)
    by (inl c) = subst (λ s. IsShapeOf D x.ty s) (sym (shape_is (user_shapes D) x.bounds x.ty c)) (scalar_shape x.ty c)
    by (inr (inl a)) =
        subst (λ t. IsShapeOf D t (shape_by (user_shapes D) x.bounds t)) (sym a.is_type)
        (subst (λ s. IsShapeOf D (types.array a.element a.rank) (array s x.bounds)) (sym (shape_is (user_shapes D) [] a.element a.covers))
        (array_shape a.element a.rank x.bounds a.covers))
    by (inr (inr u)) = subst (λ t. IsShapeOf D t (shape_by (user_shapes D) x.bounds t)) (sym u.is_type) (shape_of_user D u.user_type u.covers)

-- ---- first values

abbrev pub first_held : Shape → Held
first_held (simple ty) = single ty (first_scalar ty)
first_held (group t fs) = parts
first_held (array e bounds) = table e (map dimension_of bounds) (repeated (size (map dimension_of bounds)) (first_value e))
first_held endless = blank

pub laid_is : (D : Declarations) (ty : Ty) (s : Shape) (q : Position) (w : Memory) → IsShapeOf D ty s → is_user ty ≡ false → laid s q w ≡ with_held q (first_held s) w
laid_is D _ _ q w (scalar_shape ty c) flat = refl
laid_is D _ _ q w (array_shape e rank bounds c) flat = refl
laid_is D _ _ q w (user_shape t d fs is of) flat = absurd (true≢false flat)

pub each_repeated : (ty : Ty) (z : _) → Plain ty z → (n : ℕ) → EachPlain ty (repeated n (scalar ty z))
each_repeated ty z p zero = none_plain ty
each_repeated ty z p (suc n) = next_plain ty z (repeated n (scalar ty z)) p (each_repeated ty z p n)

pub count_repeated : (n : ℕ) (x : Value) → count_values (repeated n x) ≡ n
count_repeated zero x = refl
count_repeated (suc n) x = ap suc (count_repeated n x)

-- ---- bounds in order

pub below : (low z : ℤ) (m : ℕ) → z -ℤ low ≡ negsuc m → int_le low z ≡ false
below (pos a) (pos b) m e = lt-leb a b (omega (arith, ints))
below (pos a) (negsuc b) m e = refl
below (negsuc a) (pos b) m e = absurd (omega (arith, ints))
below (negsuc a) (negsuc b) m e = lt-leb b a (omega (arith, ints))

pub more_than_none : (m p : ℕ) → 0 < p → 0 < suc m * p
more_than_none m p lt = grind arith

some_by : (b : ℤ × ℤ) (x : ℤ) (p : ℕ) → is_in_order b ≡ true → b.1 -ℤ b.0 ≡ x → 0 < p → 0 < count_from x * p
some_by b (pos i) p o e lt = more_than_none i p lt
some_by b (negsuc i) p o e lt = absurd (true≢false (sym o ∙ below b.0 b.1 i e))

some_in : (bs : List (ℤ × ℤ)) → list_all is_in_order bs ≡ true → 0 < product (map dimension_of bs)
some_in [] o = omega arith
some_in (b ∷ bs) o =
    let both : (is_in_order b ≡ true) × (list_all is_in_order bs ≡ true) = both_true (is_in_order b) (list_all is_in_order bs) o in
    some_by b (b.1 -ℤ b.0) (product (map dimension_of bs)) both.0 refl (some_in bs both.1)

first_sized : (bs : List (ℤ × ℤ)) (x : Value) → list_all is_in_order bs ≡ true → is_within_limits (map dimension_of bs) ≡ true
    → IsSized (map dimension_of bs) (repeated (size (map dimension_of bs)) x)
first_sized [] x o within = no_elements
first_sized (b ∷ bs) x o within =
    sized (dimension_of b) (map dimension_of bs) (repeated (size (map dimension_of (b ∷ bs))) x)
    (lt-ltb 0 (size (map dimension_of (b ∷ bs))) (some_in (b ∷ bs) o)) within (count_repeated (size (map dimension_of (b ∷ bs))) x)

-- what is laid for a variable
pub first_of_variable : (D : Declarations) (v : ℕ) (x : Variable) → slice_get D.vars v ≡ Some x → is_flat D x ≡ true → is_makeable (variable_shape D v) ≡ true
    → Holds x.ty (first_held (variable_shape D v))
first_of_variable D v x is h =
    subst (λ o. is_makeable (declared_shape (user_shapes D) o) ≡ true → Holds x.ty (first_held (declared_shape (user_shapes D) o))) (sym is)
    (by (flat_kinds D x h))
  where
    users : ℕ → Shape
    users = user_shapes D

    of_parts : (t : ℕ) (d : Shape) → IsShapeOf D (types.user t) d → Holds (types.user t) (first_held d)
    of_parts _ _ (user_shape t d fs is of) = holds_parts t
    of_parts t _ (scalar_shape ty c) = absurd (true≢false (sym c))

    by : FlatKind D x → is_makeable (shape_by users x.bounds x.ty) ≡ true → Holds x.ty (first_held (shape_by users x.bounds x.ty))
    by (inl c) m = subst (λ s. Holds x.ty (first_held s)) (sym (shape_is users x.bounds x.ty c)) (holds_scalar x.ty (first_scalar x.ty) (first_plain x.ty c))
    by (inr (inr u)) m =
        subst (λ t. Holds t (first_held (shape_by users x.bounds t))) (sym u.is_type) (of_parts u.user_type (users u.user_type) (shape_of_user D u.user_type u.covers))
    by (inr (inl a)) m =
        let s : Shape = array (simple a.element) x.bounds in
        let is : shape_by users x.bounds x.ty ≡ s =
        ap (λ t. shape_by users x.bounds t) a.is_type ∙ ap (λ d. array d x.bounds) (shape_is users [] a.element a.covers) in
        let within : is_makeable s ≡ true = sym (ap is_makeable is) ∙ m in
        subst (λ t. Holds t (first_held (shape_by users x.bounds x.ty))) (sym a.is_type)
        (subst (λ d. Holds (types.array a.element a.rank) (first_held d)) (sym is)
        (holds_array a.element a.rank (map dimension_of x.bounds) (repeated (size (map dimension_of x.bounds)) (first_value (simple a.element))) a.covers
        (first_sized x.bounds (first_value (simple a.element)) a.bounds (both_true true (is_within_limits (map dimension_of x.bounds)) within).1)
        (each_repeated a.element (first_scalar a.element) (first_plain a.element a.covers) (size (map dimension_of x.bounds)))))
