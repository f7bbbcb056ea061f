-- The rows of Variants for And, Or, Xor, `\` and Mod give the same values as the operators of Visual Basic 6.
use Rattle.std.proofs.Common.{◌≡◌, ℕ, pos, Bool, true, false, ◌&&◌, Option, Some, None, IfSome, refl, sym, subst}
use Rattle.vb_tree.specs.BoundTree as types
use Rattle.vb_tree.specs.BoundTree.{Ty}
use Rattle.vb_tree.specs.declared.bound.Op6.{Op6}
use Rattle.vb_tree.specs.declared.bound.Op6.TheVariants.{Typed, Variant, VariantUn}
use Rattle.vb_tree.specs.declared.expression.BinOp.{BinOp}
use Rattle.vb_tree.specs.declared.expression.BinOp.TheVariants as b
use Rattle.vb_tree.specs.declared.expression.UnOp.TheVariants as u
use Rattle.vb_tree.specs.declared.value.Value6.{Value6}
use Rattle.vb_tree.specs.declared.value.Value6.TheVariants as v
use Rattle.vb6_meaning.specs.Answers.{Answer, gives, raises, outside, then_answer}
use Rattle.vb6_meaning.specs.Kinds.{is_byte, wider, whole}
use Rattle.vb6_meaning.specs.declared.number.Number.{Number}
use Rattle.vb6_meaning.specs.Numbers.{number_of}
use Rattle.vb6_meaning.specs.Values as six
use Rattle.vb6_meaning.specs.Values.{held_number, logical, bits, both, either, one_alone, quotient, remainder, negation, operate}
use Rattle.vb6_meaning.specs.declared.number.NumberKind.{NumberKind}
use Rattle.vb6_meaning.specs.declared.number.NumberKind.TheVariants as kinds
use Rattle.net_tree.specs.declared.expression.NetBin.{NetBin}
use Rattle.net_tree.specs.declared.expression.NetBin.TheVariants as op
use Rattle.net_tree.specs.declared.expression.NetUn.TheVariants as un
use Rattle.net_meaning.specs.declared.value.ValueN.{ValueN}
use Rattle.net_meaning.specs.declared.value.ValueN.TheVariants as n
use Rattle.net_meaning.specs.SameValues.{Agrees, IsSame, IsSameOperator, is_typed}
use Rattle.net_meaning.specs.Support.{of_variant, var_row, var_and, var_or, var_xor, var_div, var_mod, var_not}
use Rattle.net_meaning.specs.ValueMatch.{Matches, booleans, bytes, integers, longs, currencies, texts, in_variant_empty, in_variant_boolean, in_variant_byte, in_variant_integer, in_variant_long, in_variant_currency, in_variant_text}
use Rattle.net_meaning.specs.WrittenRows.{Row, operand_a, operand_b, Written, kind_of, type_of_kind, on_numbers, write_operator, write_unary, evaluate}
use Rattle.net_meaning.specs.WrittenRows as row
use Rattle.meaning_laws.proofs.ConversionRows.{turn}
use Rattle.meaning_laws.proofs.NetNumbers.{agrees_then}
use Rattle.meaning_laws.proofs.SameRows as law
use Rattle.row_laws.specs.Library.{VariantGives, SameNotOfVariant}
use Rattle.row_laws.proofs.Direct.{on_two_kinds, by_either, if_not}
use Rattle.row_laws.proofs.VariantValues.{on_both}

-- the types of Booleans and whole numbers
abbrev is_count : Ty → Bool
is_count types.boolean = true
is_count types.byte = true
is_count types.integer = true
is_count types.long = true
is_count _ = false

abbrev Counts : Written → Type 0
Counts w = is_count w.ty ≡ true

count_of : (k : NumberKind) → is_count (type_of_kind (whole k)) ≡ true
count_of kinds.Byte = refl
count_of kinds.Integer = refl
count_of kinds.Long = refl
count_of kinds.Currency = refl

division_counts : (o : NetBin) (s t : Ty) → IfSome (on_numbers (row.division o) s t) Counts
division_counts o s t = on_two_kinds Counts (row.division o s t) (kind_of s) (kind_of t) (λ k l. count_of (wider k l))

logical_counts : (f : Row → Row → Row) (s t : Ty) → IfSome (row.logical f (row.bits f) s t) Counts
logical_counts f s t =
    by_either Counts (row.is_boolean s && row.is_boolean t) (record { ty = types.boolean; row = f operand_a operand_b }) (on_numbers (row.bits f) s t) refl
    (on_two_kinds Counts (row.bits f s t) (kind_of s) (kind_of t) (λ k l. count_of (wider k l)))

module _ (same : ℕ → ℕ → Bool) where
  -- the answer of a row, given back as the value that matches
  abbrev Back : Answer Value6 → Type 0
  Back r = Agrees (Matches same types.variant) r (then_answer r (of_variant 0))

  counted : (ty : Ty) (a : Value6) (x : ValueN) → is_count ty ≡ true → Matches same ty a x → (u : ValueN) × (of_variant 0 a ≡ gives u) × Matches same types.variant a u
  counted types.boolean _ _ e (booleans p) = (n.Boolean p, refl, in_variant_boolean p)
  counted types.byte _ _ e (bytes m f) = (n.Byte m, refl, in_variant_byte m f)
  counted types.integer _ _ e (integers z f) = (n.Short z, refl, in_variant_integer z f)
  counted types.long _ _ e (longs z f) = (n.Integer z, refl, in_variant_long z f)
  counted types.currency a x e h = absurd (cc e)
  counted types.str a x e h = absurd (cc e)
  counted (types.fixed k) a x e h = absurd (cc e)
  counted (types.user k) a x e h = absurd (cc e)
  counted (types.class k) a x e h = absurd (cc e)
  counted types.object a x e h = absurd (cc e)
  counted types.variant a x e h = absurd (cc e)
  counted (types.array t r) a x e h = absurd (cc e)
  counted types.nothing a x e h = absurd (cc e)
  counted types.unknown a x e h = absurd (cc e)

  by_row : (w : Written) (r : Answer Value6) (q : Answer ValueN) → is_count w.ty ≡ true → Agrees (Matches same w.ty) r q → Back r
  by_row w (gives a) q e h = counted w.ty a h.0 e h.2
  by_row w (raises k) q e h = refl
  by_row w outside q e h = tt

  by_law : (o : Option Written) (r : Answer Value6) (x y : ValueN) → IfSome o Counts → IsSame same r o x y → Back r
  by_law None r x y e h = subst Back (sym h) tt
  by_law (Some w) r x y e h = by_row w r (evaluate w.row x y) e h

  module _ (o : BinOp) (is : IsSameOperator same o) (counts : (s t : Ty) → IfSome (write_operator o s t) Counts) where
    typed_back : (s t : Ty) (a c : Value6) (x y : ValueN) → is_typed s ≡ true → is_typed t ≡ true → Matches same s a x → Matches same t c y → Back (operate (Typed o) a c)
    typed_back s t a c x y h k m p = by_law (write_operator o s t) (operate (Typed o) a c) x y (counts s t) (is s t a c x y h k m p)

  abbrev TypedBack : (Value6 → Value6 → Answer Value6) → Type 0
  TypedBack f = (s t : Ty) (a c : Value6) (x y : ValueN) → is_typed s ≡ true → is_typed t ≡ true → Matches same s a x → Matches same t c y → Back (f a c)

  -- ---- And, Or and Xor

  module _ (f : Bool → Bool → Bool) (typed : TypedBack (logical f (bits f))) where
    logical_none : (a : Value6) → Back (logical f (bits f) a v.Empty)
    logical_none (v.Boolean true) = tt
    logical_none (v.Boolean false) = tt
    logical_none (v.Byte m) = tt
    logical_none (v.Int z) = tt
    logical_none (v.Long z) = tt
    logical_none (v.Cur z) = tt
    logical_none (v.Str units) = tt
    logical_none v.Nothing = tt
    logical_none (v.Object k) = tt
    logical_none v.Empty = tt

    logical_behind : (s : Ty) (a c : Value6) (x y : ValueN) → is_typed s ≡ true → Matches same s a x → Matches same types.variant c y → Back (logical f (bits f) a c)
    logical_behind s a _ x _ h m in_variant_empty = logical_none a
    logical_behind s a _ x _ h m (in_variant_boolean p) = typed s types.boolean a (v.Boolean p) x (n.Boolean p) h refl m (booleans p)
    logical_behind s a _ x _ h m (in_variant_byte k e) = typed s types.byte a (v.Byte k) x (n.Byte k) h refl m (bytes k e)
    logical_behind s a _ x _ h m (in_variant_integer z e) = typed s types.integer a (v.Int z) x (n.Short z) h refl m (integers z e)
    logical_behind s a _ x _ h m (in_variant_long z e) = typed s types.long a (v.Long z) x (n.Integer z) h refl m (longs z e)
    logical_behind s a _ x _ h m (in_variant_currency z k i e d) = typed s types.currency a (v.Cur z) x (n.Decimal k i) h refl m (currencies z k i e d)
    logical_behind s a _ x _ h m (in_variant_text units) = typed s types.str a (v.Str units) x (n.Str units) h refl m (texts units)

    logical_back : (a c : Value6) (x y : ValueN) → Matches same types.variant a x → Matches same types.variant c y → Back (logical f (bits f) a c)
    logical_back _ c _ y in_variant_empty k = tt
    logical_back _ c _ y (in_variant_boolean p) k = logical_behind types.boolean (v.Boolean p) c (n.Boolean p) y refl (booleans p) k
    logical_back _ c _ y (in_variant_byte m e) k = logical_behind types.byte (v.Byte m) c (n.Byte m) y refl (bytes m e) k
    logical_back _ c _ y (in_variant_integer z e) k = logical_behind types.integer (v.Int z) c (n.Short z) y refl (integers z e) k
    logical_back _ c _ y (in_variant_long z e) k = logical_behind types.long (v.Long z) c (n.Integer z) y refl (longs z e) k
    logical_back _ c _ y (in_variant_currency z m i e d) k = logical_behind types.currency (v.Cur z) c (n.Decimal m i) y refl (currencies z m i e d) k
    logical_back _ c _ y (in_variant_text units) k = logical_behind types.str (v.Str units) c (n.Str units) y refl (texts units) k

  -- ---- `\` and Mod, to which Empty is the Integer 0

  module _ (f : Number → Number → Answer Value6) (typed : TypedBack (λ a c. six.on_numbers f (number_of a) (number_of c))) where
    number_behind : (s : Ty) (a c : Value6) (x y : ValueN) → is_typed s ≡ true → Matches same s a x → Matches same types.variant c y → Back (six.on_numbers f (number_of a) (held_number c))
    number_behind s a _ x _ h m in_variant_empty = typed s types.integer a (v.Int (pos 0)) x (n.Short (pos 0)) h refl m (integers (pos 0) refl)
    number_behind s a _ x _ h m (in_variant_boolean p) = typed s types.boolean a (v.Boolean p) x (n.Boolean p) h refl m (booleans p)
    number_behind s a _ x _ h m (in_variant_byte k e) = typed s types.byte a (v.Byte k) x (n.Byte k) h refl m (bytes k e)
    number_behind s a _ x _ h m (in_variant_integer z e) = typed s types.integer a (v.Int z) x (n.Short z) h refl m (integers z e)
    number_behind s a _ x _ h m (in_variant_long z e) = typed s types.long a (v.Long z) x (n.Integer z) h refl m (longs z e)
    number_behind s a _ x _ h m (in_variant_currency z k i e d) = typed s types.currency a (v.Cur z) x (n.Decimal k i) h refl m (currencies z k i e d)
    number_behind s a _ x _ h m (in_variant_text units) = typed s types.str a (v.Str units) x (n.Str units) h refl m (texts units)

    number_back : (a c : Value6) (x y : ValueN) → Matches same types.variant a x → Matches same types.variant c y → Back (six.on_numbers f (held_number a) (held_number c))
    number_back _ c _ y in_variant_empty k = number_behind types.integer (v.Int (pos 0)) c (n.Short (pos 0)) y refl (integers (pos 0) refl) k
    number_back _ c _ y (in_variant_boolean p) k = number_behind types.boolean (v.Boolean p) c (n.Boolean p) y refl (booleans p) k
    number_back _ c _ y (in_variant_byte m e) k = number_behind types.byte (v.Byte m) c (n.Byte m) y refl (bytes m e) k
    number_back _ c _ y (in_variant_integer z e) k = number_behind types.integer (v.Int z) c (n.Short z) y refl (integers z e) k
    number_back _ c _ y (in_variant_long z e) k = number_behind types.long (v.Long z) c (n.Integer z) y refl (longs z e) k
    number_back _ c _ y (in_variant_currency z m i e d) k = number_behind types.currency (v.Cur z) c (n.Decimal m i) y refl (currencies z m i e d) k
    number_back _ c _ y (in_variant_text units) k = number_behind types.str (v.Str units) c (n.Str units) y refl (texts units) k

  -- ---- Not

  not_counts : (s : Ty) (k : Option NumberKind) → IfSome (row.turned s k) Counts
  not_counts s None = tt
  not_counts s (Some k) = if_not Counts (is_byte k) (row.written (type_of_kind (whole k)) (row.unary un.Not (row.as_kind (whole k) s operand_a))) (count_of k)

  not_of : (s : Ty) (a : Value6) (x : ValueN) → is_typed s ≡ true → Matches same s a x → Back (negation a)
  not_of s a x h m =
      by_law (write_unary u.Not s) (negation a) x n.Nothing
      (by_either Counts (row.is_boolean s) (record { ty = types.boolean; row = row.unary un.Not operand_a }) (row.turned s (kind_of s)) refl (not_counts s (kind_of s)))
      (turn same s a a x n.Nothing h m)

  not_back : (a : Value6) (x : ValueN) → Matches same types.variant a x → Back (negation a)
  not_back _ _ in_variant_empty = tt
  not_back _ _ (in_variant_boolean p) = not_of types.boolean (v.Boolean p) (n.Boolean p) refl (booleans p)
  not_back _ _ (in_variant_byte m e) = not_of types.byte (v.Byte m) (n.Byte m) refl (bytes m e)
  not_back _ _ (in_variant_integer z e) = not_of types.integer (v.Int z) (n.Short z) refl (integers z e)
  not_back _ _ (in_variant_long z e) = not_of types.long (v.Long z) (n.Integer z) refl (longs z e)
  not_back _ _ (in_variant_currency z m i e d) = not_of types.currency (v.Cur z) (n.Decimal m i) refl (currencies z m i e d)
  not_back _ _ (in_variant_text units) = tt

  -- the support function gives what is given back
  given_back : (o : Op6) (a c : Value6) (x y : ValueN) → Matches same types.variant a x → Matches same types.variant c y → Back (operate o a c)
      → Agrees (Matches same types.variant) (operate o a c) (var_row o 0 x y)
  given_back o a c x y h k e =
      subst (λ q. Agrees (Matches same types.variant) (operate o a c) (then_answer q (of_variant 0))) (sym (on_both same (operate o) a c x y h k)) e

pub and_same : VariantGives b.And types.variant var_and
and_same same a c x y h k = given_back same (Variant b.And) a c x y h k (logical_back same both (typed_back same b.And (law.both same) (logical_counts row.and_row)) a c x y h k)

pub or_same : VariantGives b.Or types.variant var_or
or_same same a c x y h k = given_back same (Variant b.Or) a c x y h k (logical_back same either (typed_back same b.Or (law.either same) (logical_counts row.or_row)) a c x y h k)

pub xor_same : VariantGives b.Xor types.variant var_xor
xor_same same a c x y h k = given_back same (Variant b.Xor) a c x y h k (logical_back same one_alone (typed_back same b.Xor (law.one_alone same) (logical_counts row.xor_row)) a c x y h k)

pub quotient_same : VariantGives b.IntDiv types.variant var_div
quotient_same same a c x y h k = given_back same (Variant b.IntDiv) a c x y h k (number_back same quotient (typed_back same b.IntDiv (law.divide same) (division_counts op.IntDiv)) a c x y h k)

pub remainder_same : VariantGives b.Mod types.variant var_mod
remainder_same same a c x y h k = given_back same (Variant b.Mod) a c x y h k (number_back same remainder (typed_back same b.Mod (law.modulo same) (division_counts op.Mod)) a c x y h k)

pub not_same : SameNotOfVariant
not_same same a x h = given_back same (VariantUn u.Not) a a x x h h (not_back same a x h)

pub eqv_same : VariantGives b.Eqv types.variant (λ x y. then_answer (var_xor x y) var_not)
eqv_same same a c x y h k =
    agrees_then (Matches same types.variant) (Matches same types.variant) (operate (Variant b.Xor) a c) (var_xor x y) negation var_not (xor_same same a c x y h k) (λ p q m. not_same same p q m)
