-- Types of which one is covered are equal where they are the same.
use Rattle.std.proofs.Common.{◌≡◌, ◌⊎◌, inl, inr, ℕ, ℤ, Bool, true, false, ◌&&◌, ◌||◌, List, refl, sym, ap, eqb-true, true≢false}
use Rattle.vb_tree.specs.BoundTree as types
use Rattle.vb_tree.specs.BoundTree.{Ty}
use Rattle.bound_tree.specs.Tree.{Declarations, Expr, typed}
use Rattle.bound_facts.specs.Locks.{is_same_type}
use Rattle.bound_facts.specs.Node.{type_at}
use Rattle.net_meaning.specs.SameValues.{is_typed}
use Rattle.vb6_run.specs.Expressions.{type_shape}
use Rattle.vb6_run.specs.Shapes.{Shape, simple, shape_by}
use Rattle.run_matches.specs.CoveredVariables.{covers_group_type, covers_type}
use Rattle.run_matches.specs.CoveredExprs.{Uses, covers_expr, covers_term}
use Rattle.run_matches.specs.UserTypes.{is_class_type, is_group_type}

pub both_true : (a b : Bool) → (a && b) ≡ true → (a ≡ true) × (b ≡ true)
both_true true b h = (refl, h)
both_true false b h = absurd (cc h)

pub either_true : (a b : Bool) → (a || b) ≡ true → (a ≡ true) ⊎ (b ≡ true)
either_true true b h = inl refl
either_true false b h = inr h

pub or_false : (a : Bool) → (a || false) ≡ true → a ≡ true
or_false true h = refl
or_false false h = h

-- ---- the second is covered

to_boolean : (s : Ty) → is_same_type s types.boolean ≡ true → s ≡ types.boolean
to_boolean types.boolean h = refl
to_boolean _ h = absurd (cc h)

to_byte : (s : Ty) → is_same_type s types.byte ≡ true → s ≡ types.byte
to_byte types.byte h = refl
to_byte _ h = absurd (cc h)

to_integer : (s : Ty) → is_same_type s types.integer ≡ true → s ≡ types.integer
to_integer types.integer h = refl
to_integer _ h = absurd (cc h)

to_long : (s : Ty) → is_same_type s types.long ≡ true → s ≡ types.long
to_long types.long h = refl
to_long _ h = absurd (cc h)

to_currency : (s : Ty) → is_same_type s types.currency ≡ true → s ≡ types.currency
to_currency types.currency h = refl
to_currency _ h = absurd (cc h)

to_str : (s : Ty) → is_same_type s types.str ≡ true → s ≡ types.str
to_str types.str h = refl
to_str _ h = absurd (cc h)

pub same_as : (s t : Ty) → covers_type t ≡ true → is_same_type s t ≡ true → s ≡ t
same_as s types.boolean c h = to_boolean s h
same_as s types.byte c h = to_byte s h
same_as s types.integer c h = to_integer s h
same_as s types.long c h = to_long s h
same_as s types.currency c h = to_currency s h
same_as s types.str c h = to_str s h
same_as s (types.fixed k) c h = absurd (cc c)
same_as s (types.user k) c h = absurd (cc c)
same_as s (types.class k) c h = absurd (cc c)
same_as s types.object c h = absurd (cc c)
same_as s types.variant c h = absurd (cc c)
same_as s (types.array x k) c h = absurd (cc c)
same_as s types.nothing c h = absurd (cc c)
same_as s types.unknown c h = absurd (cc c)

-- ---- the first is covered

of_boolean : (t : Ty) → is_same_type types.boolean t ≡ true → t ≡ types.boolean
of_boolean types.boolean h = refl
of_boolean _ h = absurd (cc h)

of_byte : (t : Ty) → is_same_type types.byte t ≡ true → t ≡ types.byte
of_byte types.byte h = refl
of_byte _ h = absurd (cc h)

of_integer : (t : Ty) → is_same_type types.integer t ≡ true → t ≡ types.integer
of_integer types.integer h = refl
of_integer _ h = absurd (cc h)

of_long : (t : Ty) → is_same_type types.long t ≡ true → t ≡ types.long
of_long types.long h = refl
of_long _ h = absurd (cc h)

of_currency : (t : Ty) → is_same_type types.currency t ≡ true → t ≡ types.currency
of_currency types.currency h = refl
of_currency _ h = absurd (cc h)

of_str : (t : Ty) → is_same_type types.str t ≡ true → t ≡ types.str
of_str types.str h = refl
of_str _ h = absurd (cc h)

pub same_of : (s t : Ty) → covers_type s ≡ true → is_same_type s t ≡ true → t ≡ s
same_of types.boolean t c h = of_boolean t h
same_of types.byte t c h = of_byte t h
same_of types.integer t c h = of_integer t h
same_of types.long t c h = of_long t h
same_of types.currency t c h = of_currency t h
same_of types.str t c h = of_str t h
same_of (types.fixed k) t c h = absurd (cc c)
same_of (types.user k) t c h = absurd (cc c)
same_of (types.class k) t c h = absurd (cc c)
same_of types.object t c h = absurd (cc c)
same_of types.variant t c h = absurd (cc c)
same_of (types.array x k) t c h = absurd (cc c)
same_of types.nothing t c h = absurd (cc c)
same_of types.unknown t c h = absurd (cc c)

-- ---- user types and classes

pub same_class : (c : ℕ) (ty : Ty) → is_same_type (types.class c) ty ≡ true → ty ≡ types.class c
same_class c (types.class k) h = ap types.class (sym (eqb-true c k h))
same_class c _ h = absurd (true≢false (sym h))

pub class_of : (ty : Ty) → is_class_type ty ≡ true → (c : ℕ) × (ty ≡ types.class c)
class_of (types.class c) h = (c, refl)
class_of _ h = absurd (true≢false (sym h))

-- what is covered as one of these is one
pub is_group : (D : Declarations) (ty : Ty) → covers_group_type D ty ≡ true → is_group_type ty ≡ true
is_group D (types.user t) h = refl
is_group D (types.class c) h = refl
is_group D _ h = absurd (true≢false (sym h))

-- ---- what a covered type is

pub covered_typed : (s : Ty) → covers_type s ≡ true → is_typed s ≡ true
covered_typed types.variant c = absurd (cc c)
covered_typed _ c = refl

pub covered_shape : (D : Declarations) (s : Ty) → covers_type s ≡ true → type_shape D s ≡ simple s
covered_shape D types.boolean c = refl
covered_shape D types.byte c = refl
covered_shape D types.integer c = refl
covered_shape D types.long c = refl
covered_shape D types.currency c = refl
covered_shape D types.str c = refl
covered_shape D (types.fixed k) c = refl
covered_shape D (types.user k) c = absurd (cc c)
covered_shape D (types.class k) c = refl
covered_shape D types.object c = refl
covered_shape D types.variant c = refl
covered_shape D (types.array x k) c = absurd (cc c)
covered_shape D types.nothing c = refl
covered_shape D types.unknown c = refl

pub simple_type : (users : ℕ → Shape) (bounds : List (ℤ × ℤ)) (ty : Ty) → covers_type ty ≡ true → shape_by users bounds ty ≡ simple ty
simple_type users bounds types.boolean c = refl
simple_type users bounds types.byte c = refl
simple_type users bounds types.integer c = refl
simple_type users bounds types.long c = refl
simple_type users bounds types.currency c = refl
simple_type users bounds types.str c = refl
simple_type users bounds _ c = absurd (cc c)

pub covered_type : (uses : Uses) (e : Expr) → covers_expr uses e ≡ true → covers_type (type_at e) ≡ true
covered_type uses (typed ty t) h = (both_true (covers_type ty) (covers_term uses t) h).0
