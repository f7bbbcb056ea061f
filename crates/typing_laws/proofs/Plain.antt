-- Scalars of covered types, by the six types.
use Rattle.std.proofs.Common.{◌≡◌, refl, sym, ap, subst, ℕ, suc, ℤ, pos, negsuc, neg_ℤ, true, false, List, [], arith, true≢false, nat_eq, Some}
use Rattle.std.specs.Prelude.{◌*ℤ◌, ◌*◌}
use Rattle.vb_tree.specs.BoundTree as types
use Rattle.vb_tree.specs.BoundTree.{Ty}
use Rattle.vb_tree.specs.declared.value.Value6.{Value6}
use Rattle.vb_tree.specs.declared.value.Value6.TheVariants as v
use Rattle.vb6_meaning.specs.Answers.{gives}
use Rattle.vb6_meaning.specs.declared.number.NumberKind.TheVariants as kinds
use Rattle.vb6_meaning.specs.Kinds.{fits}
use Rattle.vb6_meaning.specs.NumberTexts.{text_of, print_text}
use Rattle.bound_tree.specs.Tree.{Declarations}
use Rattle.bound_facts.specs.Locks.{is_same_type}
use Rattle.net_meaning.specs.declared.value.ValueN.{ValueN}
use Rattle.net_meaning.specs.declared.value.ValueN.TheVariants as n
use Rattle.net_meaning.specs.SameValues as same_values
use Rattle.net_meaning.specs.ValueMatch.{Matches, booleans, bytes, integers, longs, currencies, texts, empty_text}
use Rattle.net_meaning.specs.WrittenLiterals.{is_within, type_of_constant}
use Rattle.vb6_run.specs.Expressions.{type_shape}
use Rattle.vb6_run.specs.Shapes.{Shape, simple, shape_by}
use Rattle.vb6_run.specs.Store.{Memory}
use Rattle.vb6_run.specs.Values.{scalar, is_of_shape, kept_as, first_scalar}
use Rattle.run_matches.specs.CoveredVariables.{covers_type}
use Rattle.run_matches.specs.Typed.{IsScalar}
pub use Rattle.typing_laws.specs.Plain.{Plain, a_boolean, a_byte, an_integer, a_long, a_currency, a_text}

-- ---- from and to scalars

boolean_of : (s : Memory) (x : Value6) → IsScalar s types.boolean x → Plain types.boolean x
boolean_of s (v.Boolean b) h = a_boolean b
boolean_of s _ h = absurd h

byte_of : (s : Memory) (x : Value6) → IsScalar s types.byte x → Plain types.byte x
byte_of s (v.Byte m) h = a_byte m h
byte_of s _ h = absurd h

integer_of : (s : Memory) (x : Value6) → IsScalar s types.integer x → Plain types.integer x
integer_of s (v.Int z) h = an_integer z h
integer_of s _ h = absurd h

long_of : (s : Memory) (x : Value6) → IsScalar s types.long x → Plain types.long x
long_of s (v.Long z) h = a_long z h
long_of s _ h = absurd h

currency_of : (s : Memory) (x : Value6) → IsScalar s types.currency x → Plain types.currency x
currency_of s (v.Cur z) h = a_currency z h
currency_of s _ h = absurd h

text_in : (s : Memory) (x : Value6) → IsScalar s types.str x → Plain types.str x
text_in s (v.Str units) h = a_text units
text_in s _ h = absurd h

pub plain_of : (s : Memory) (ty : Ty) (x : Value6) → covers_type ty ≡ true → IsScalar s ty x → Plain ty x
plain_of s types.boolean x c h = boolean_of s x h
plain_of s types.byte x c h = byte_of s x h
plain_of s types.integer x c h = integer_of s x h
plain_of s types.long x c h = long_of s x h
plain_of s types.currency x c h = currency_of s x h
plain_of s types.str x c h = text_in s x h
plain_of s _ x c h = absurd (true≢false (sym c))

pub scalar_of : (s : Memory) (ty : Ty) (x : Value6) → Plain ty x → IsScalar s ty x
scalar_of s _ _ (a_boolean b) = tt
scalar_of s _ _ (a_byte m h) = h
scalar_of s _ _ (an_integer z h) = h
scalar_of s _ _ (a_long z h) = h
scalar_of s _ _ (a_currency z h) = h
scalar_of s _ _ (a_text units) = tt

pub is_covered : (ty : Ty) (x : Value6) → Plain ty x → covers_type ty ≡ true
is_covered _ _ (a_boolean b) = refl
is_covered _ _ (a_byte m h) = refl
is_covered _ _ (an_integer z h) = refl
is_covered _ _ (a_long z h) = refl
is_covered _ _ (a_currency z h) = refl
is_covered _ _ (a_text units) = refl

pub constant_plain : (x : Value6) → is_within x ≡ true → covers_type (type_of_constant x) ≡ true → Plain (type_of_constant x) x
constant_plain (v.Boolean b) h c = a_boolean b
constant_plain (v.Byte m) h c = a_byte m h
constant_plain (v.Int z) h c = an_integer z h
constant_plain (v.Long z) h c = a_long z h
constant_plain (v.Cur z) h c = a_currency z h
constant_plain (v.Str units) h c = a_text units
constant_plain v.Nothing h c = absurd (true≢false (sym c))
constant_plain (v.Object k) h c = absurd (true≢false (sym c))
constant_plain v.Empty h c = absurd (true≢false (sym c))

-- what variables begin with
pub first_plain : (ty : Ty) → covers_type ty ≡ true → Plain ty (first_scalar ty)
first_plain types.boolean c = a_boolean false
first_plain types.byte c = a_byte 0 refl
first_plain types.integer c = an_integer (pos 0) refl
first_plain types.long c = a_long (pos 0) refl
first_plain types.currency c = a_currency (pos 0) refl
first_plain types.str c = a_text []
first_plain _ c = absurd (true≢false (sym c))

-- ---- types

second_covered : (t s : Ty) → covers_type t ≡ true → is_same_type s t ≡ true → s ≡ t
second_covered types.boolean types.boolean c e = refl
second_covered types.byte types.byte c e = refl
second_covered types.integer types.integer c e = refl
second_covered types.long types.long c e = refl
second_covered types.currency types.currency c e = refl
second_covered types.str types.str c e = refl
second_covered _ _ c e = cc

-- types of which the second is covered are equal where they are the same
pub same_as : (s t : Ty) → covers_type t ≡ true → is_same_type s t ≡ true → s ≡ t
same_as s t c e = second_covered t s c e

pub self : (ty : Ty) → covers_type ty ≡ true → is_same_type ty ty ≡ true
self types.boolean c = refl
self types.byte c = refl
self types.integer c = refl
self types.long c = refl
self types.currency c = refl
self types.str c = refl
self _ c = absurd (true≢false (sym c))

pub is_no_variant : (s : Ty) → covers_type s ≡ true → same_values.is_typed s ≡ true
is_no_variant types.variant c = absurd (true≢false (sym c))
is_no_variant _ c = refl

pub shape_is : (users : ℕ → Shape) (bounds : List (ℤ × ℤ)) (ty : Ty) → covers_type ty ≡ true → shape_by users bounds ty ≡ simple ty
shape_is users bounds types.boolean c = refl
shape_is users bounds types.byte c = refl
shape_is users bounds types.integer c = refl
shape_is users bounds types.long c = refl
shape_is users bounds types.currency c = refl
shape_is users bounds types.str c = refl
shape_is users bounds _ c = absurd (true≢false (sym c))

-- ---- what holds of such a value

pub long_value : (t : Ty) (x : Value6) → Plain t x → t ≡ types.long → (z : ℤ) × (x ≡ v.Long z) × (fits kinds.Long z ≡ true)
long_value t x p e = by types.long x refl (subst (λ s. Plain s x) e p)
  where
    by : (s : Ty) (y : Value6) → s ≡ types.long → Plain s y → (z : ℤ) × (y ≡ v.Long z) × (fits kinds.Long z ≡ true)
    by _ _ i (a_long z h) = (z, refl, h)
    by _ _ i (a_boolean b) = absurd (cc i)
    by _ _ i (a_byte m h) = absurd (cc i)
    by _ _ i (an_integer z h) = absurd (cc i)
    by _ _ i (a_currency z h) = absurd (cc i)
    by _ _ i (a_text s) = absurd (cc i)

pub is_of_type : (D : Declarations) (ty : Ty) (x : Value6) → Plain ty x → is_of_shape (type_shape D ty) (scalar ty x) ≡ true
is_of_type D _ _ (a_boolean b) = refl
is_of_type D _ _ (a_byte m h) = refl
is_of_type D _ _ (an_integer z h) = refl
is_of_type D _ _ (a_long z h) = refl
is_of_type D _ _ (a_currency z h) = refl
is_of_type D _ _ (a_text units) = refl

pub is_kept : (ty : Ty) (x : Value6) → Plain ty x → kept_as (simple ty) (scalar ty x) ≡ Some (scalar ty x)
is_kept _ _ (a_boolean b) = refl
is_kept _ _ (a_byte m h) = refl
is_kept _ _ (an_integer z h) = refl
is_kept _ _ (a_long z h) = refl
is_kept _ _ (a_currency z h) = refl
is_kept _ _ (a_text units) = refl

abbrev pub HasText : Value6 → Type 0
HasText x = (s : List ℕ) × (text_of x ≡ gives s)

pub has_text : (ty : Ty) (x : Value6) → Plain ty x → HasText x
has_text _ _ (a_boolean b) = (_, refl)
has_text _ _ (a_byte m h) = (_, refl)
has_text _ _ (an_integer z h) = (_, refl)
has_text _ _ (a_long z h) = (_, refl)
has_text _ _ (a_currency z h) = (_, refl)
has_text _ _ (a_text units) = (units, refl)

abbrev pub IsPrinted : Value6 → Type 0
IsPrinted x = (s : List ℕ) × (print_text x ≡ gives s)

pub is_printed : (ty : Ty) (x : Value6) → Plain ty x → IsPrinted x
is_printed _ _ (a_boolean b) = (_, refl)
is_printed _ _ (a_byte m h) = (_, refl)
is_printed _ _ (an_integer z h) = (_, refl)
is_printed _ _ (a_long z h) = (_, refl)
is_printed _ _ (a_currency z h) = (_, refl)
is_printed _ _ (a_text units) = (units, refl)

-- ---- values of Visual Basic .NET that match

by_one : (z : ℤ) → z *ℤ pos 1 ≡ z
by_one (pos m) = ap pos (let e : m * 1 ≡ m = omega arith in e)
by_one (negsuc m) = let e : suc m * 1 ≡ suc m = omega arith in ap (λ k. neg_ℤ (pos k)) e

abbrev pub HasMatch : Ty → Value6 → Type 0
HasMatch ty x = (y : ValueN) × Matches nat_eq ty x y

pub has_match : (ty : Ty) (x : Value6) → Plain ty x → HasMatch ty x
has_match _ _ (a_boolean b) = (n.Boolean b, booleans b)
has_match _ _ (a_byte m h) = (n.Byte m, bytes m h)
has_match _ _ (an_integer z h) = (n.Short z, integers z h)
has_match _ _ (a_long z h) = (n.Integer z, longs z h)
has_match _ _ (a_currency z h) = (n.Decimal z 4, currencies z z 4 h (omega arith, by_one z))
has_match _ _ (a_text units) = (n.Str units, texts units)

pub of_match : (ty : Ty) (x : Value6) (y : ValueN) → covers_type ty ≡ true → Matches nat_eq ty x y → Plain ty x
of_match _ _ _ c (booleans b) = a_boolean b
of_match _ _ _ c (bytes m h) = a_byte m h
of_match _ _ _ c (integers z h) = an_integer z h
of_match _ _ _ c (longs z h) = a_long z h
of_match _ _ _ c (currencies z m s h d) = a_currency z h
of_match _ _ _ c (texts units) = a_text units
of_match _ _ _ c empty_text = a_text []
of_match _ _ _ c _ = absurd (true≢false (sym c))
