-- Conversions of a Variant.
use Rattle.std.proofs.Common.{◌≡◌, ℕ, zero, suc, ◌*◌, ◌-◌, ◌/◌, ◌^◌, ◌<◌, lit≤, arith, refl, sym, ◌∙◌, ap, ap₂, subst, Bool, true, false, cond, Some, None, ℤ, pos, negsuc, neg_ℤ, ◌*ℤ◌}
use Rattle.std.specs.Prelude.{nat_le, if◌then◌else◌, int_div}
use Rattle.std.proofs.Math.IntN.{*ℤ_comm}
use Rattle.std.proofs.Math.Nat.{mul-div_cancel}
use Rattle.std.proofs.lemmas.Bool.Decides.{nat_tests}
use Rattle.vb_tree.specs.BoundTree as types
use Rattle.vb_tree.specs.BoundTree.{Ty}
use Rattle.vb_tree.specs.declared.value.Value6.{Value6}
use Rattle.vb_tree.specs.declared.value.Value6.TheVariants as v
use Rattle.vb6_meaning.specs.Answers.{gives, raises, then_answer}
use Rattle.vb6_meaning.specs.declared.number.NumberKind.{NumberKind}
use Rattle.vb6_meaning.specs.declared.number.NumberKind.TheVariants as kinds
use Rattle.vb6_meaning.specs.Kinds.{fits, value, checked_value}
use Rattle.vb6_meaning.specs.Numbers.{of_kind, amount_in}
use Rattle.vb6_meaning.specs.NumberTexts.{text_of, currency_text}
use Rattle.vb6_meaning.specs.Values as six
use Rattle.vb6_meaning.specs.Values.{coerce, to_number, truth, fixed_text, is_nonzero}
use Rattle.net_meaning.specs.declared.value.ValueN.{ValueN}
use Rattle.net_meaning.specs.declared.value.ValueN.TheVariants as n
use Rattle.net_meaning.specs.Support as support
use Rattle.net_meaning.specs.Support.{variant_of, of_variant, scale_of, on_variant, ten_thousandths}
use Rattle.net_meaning.specs.ValueMatch.{Matches, IsTenThousandths, booleans, bytes, integers, longs, currencies, texts, empty_text, in_variant_empty, in_variant_boolean, in_variant_byte, in_variant_integer, in_variant_long, in_variant_currency, in_variant_text}
use Rattle.net_meaning.specs.WrittenRows.{type_of_kind}
use Rattle.net_meaning.specs.SameValues.{Agrees, IsSameFromVariant}
use Rattle.net_meaning.proofs.Powers.{power_positive}

-- the Variant that a value matches is the one
pub same_variant : (are_same : ℕ → ℕ → Bool) (a : Value6) (x : ValueN) → Matches are_same types.variant a x → variant_of x ≡ Some a
same_variant are_same _ _ in_variant_empty = refl
same_variant are_same _ _ (in_variant_boolean b) = refl
same_variant are_same _ _ (in_variant_byte m e) = refl
same_variant are_same _ _ (in_variant_integer z e) = refl
same_variant are_same _ _ (in_variant_long z e) = refl
same_variant are_same _ _ (in_variant_currency z m s e d) =
    let small : nat_le s 4 ≡ true = (let le = d.0 in grind (arith, nat_tests)) in
    ap₂ (λ b w. support.currency_of w b) small d.1 ∙ ap (λ b. if b then Some (v.Cur z) else None) e
same_variant are_same _ _ (in_variant_text units) = refl

-- ten-thousandths at their own scale

positive_quotient : (a k : ℕ) → 0 < k → a * k / k ≡ a
positive_quotient a k h = mul-div_cancel a h

minus_quotient : (a k : ℕ) → 0 < k → int_div (neg_ℤ (pos (suc a * k))) (pos k) ≡ neg_ℤ (pos (suc a))
minus_quotient a k h = by_size (suc a * k) refl (omega (arith, h))
  where
    by_size : (r : ℕ) → suc a * k ≡ r → 0 < r → int_div (neg_ℤ (pos r)) (pos k) ≡ neg_ℤ (pos (suc a))
    by_size zero e f = absurd (omega (arith, f))
    by_size (suc r) e f = ap (λ q. neg_ℤ (pos (q / k))) (sym e) ∙ ap (λ q. neg_ℤ (pos q)) (positive_quotient (suc a) k h)

exact : (m : ℤ) (k : ℕ) → 0 < k → int_div (m *ℤ pos k) (pos k) ≡ m
exact (pos a) k h = ap pos (positive_quotient a k h)
exact (negsuc a) k h = minus_quotient a k h

currency_back : (z m : ℤ) (s : ℕ) → IsTenThousandths z m s → of_variant s (v.Cur z) ≡ gives (n.Decimal m s)
currency_back z m s d =
    ap (λ w. gives (n.Decimal w s))
    (ap (λ w. int_div w (pos (10 ^ (4 - s)))) (sym d.1) ∙ exact m (10 ^ (4 - s)) (power_positive (4 - s)))

-- numbers

abbrev is_whole_kind : NumberKind → Bool
is_whole_kind kinds.Byte = true
is_whole_kind kinds.Integer = true
is_whole_kind kinds.Long = true
is_whole_kind kinds.Currency = false

module _ (are_same : ℕ → ℕ → Bool) where
  -- a checked number that is given back as the value that it is
  checked_back : (t : Ty) (b : Bool) (s : ℕ) (r : Value6) (x : ValueN) → of_variant s r ≡ gives x → (b ≡ true → Matches are_same t r x)
      → Agrees (Matches are_same t) (cond b (gives r) (raises 6)) (then_answer (cond b (gives r) (raises 6)) (of_variant s))
  checked_back t true s r x e h = (x, e, h refl)
  checked_back t false s r x e h = refl

  whole_back : (k : NumberKind) (s : ℕ) (z : ℤ) → is_whole_kind k ≡ true
      → Agrees (Matches are_same (type_of_kind k)) (checked_value k z) (then_answer (checked_value k z) (of_variant s))
  whole_back kinds.Byte s (pos m) c = checked_back types.byte (fits kinds.Byte (pos m)) s (v.Byte m) (n.Byte m) refl (bytes m)
  whole_back kinds.Byte s (negsuc m) c = refl
  whole_back kinds.Integer s z c = checked_back types.integer (fits kinds.Integer z) s (v.Int z) (n.Short z) refl (integers z)
  whole_back kinds.Long s z c = checked_back types.long (fits kinds.Long z) s (v.Long z) (n.Integer z) refl (longs z)
  whole_back kinds.Currency s z c = cc

  given_back : (t : Ty) (s : ℕ) (r : Value6) (x : ValueN) → of_variant s r ≡ gives x → Matches are_same t r x
      → Agrees (Matches are_same t) (gives r) (then_answer (gives r) (of_variant s))
  given_back t s r x e h = (x, e, h)

  truth_back : (k : NumberKind) (b : Bool)
      → Agrees (Matches are_same (type_of_kind k)) (gives (value k (truth k b))) (then_answer (gives (value k (truth k b))) (of_variant 0))
  truth_back kinds.Byte true = (n.Byte 255, refl, bytes 255 refl)
  truth_back kinds.Byte false = (n.Byte 0, refl, bytes 0 refl)
  truth_back kinds.Integer true = (n.Short (negsuc 0), refl, integers (negsuc 0) refl)
  truth_back kinds.Integer false = (n.Short (pos 0), refl, integers (pos 0) refl)
  truth_back kinds.Long true = (n.Integer (negsuc 0), refl, longs (negsuc 0) refl)
  truth_back kinds.Long false = (n.Integer (pos 0), refl, longs (pos 0) refl)
  truth_back kinds.Currency true = (n.Decimal (negsuc 0) 0, refl, currencies (negsuc 9999) (negsuc 0) 0 refl (lit≤ tt, refl))
  truth_back kinds.Currency false = (n.Decimal (pos 0) 0, refl, currencies (pos 0) (pos 0) 0 refl (lit≤ tt, refl))

  currency_given_back : (z : ℤ) → Agrees (Matches are_same types.currency) (checked_value kinds.Currency (pos 10000 *ℤ z)) (then_answer (checked_value kinds.Currency (pos 10000 *ℤ z)) (of_variant 0))
  currency_given_back z =
      let q = pos 10000 *ℤ z in
      let is : IsTenThousandths q z 0 = (lit≤ tt, *ℤ_comm z (pos 10000)) in
      checked_back types.currency (fits kinds.Currency q) 0 (v.Cur q) (n.Decimal z 0) (currency_back q z 0 is) (λ f. currencies q z 0 f is)

  number_back : (k : NumberKind) (a : Value6) (x : ValueN) → Matches are_same types.variant a x
      → Agrees (Matches are_same (type_of_kind k)) (to_number k a) (then_answer (to_number k a) (of_variant (scale_of x)))
  number_back kinds.Byte _ _ in_variant_empty = truth_back kinds.Byte false
  number_back kinds.Integer _ _ in_variant_empty = truth_back kinds.Integer false
  number_back kinds.Long _ _ in_variant_empty = truth_back kinds.Long false
  number_back kinds.Currency _ _ in_variant_empty = truth_back kinds.Currency false
  number_back k _ _ (in_variant_boolean b) = truth_back k b
  number_back kinds.Byte _ _ (in_variant_byte m e) = whole_back kinds.Byte 0 (pos m) refl
  number_back kinds.Integer _ _ (in_variant_byte m e) = whole_back kinds.Integer 0 (pos m) refl
  number_back kinds.Long _ _ (in_variant_byte m e) = whole_back kinds.Long 0 (pos m) refl
  number_back kinds.Currency _ _ (in_variant_byte m e) = currency_given_back (pos m)
  number_back kinds.Byte _ _ (in_variant_integer z e) = whole_back kinds.Byte 0 z refl
  number_back kinds.Integer _ _ (in_variant_integer z e) = whole_back kinds.Integer 0 z refl
  number_back kinds.Long _ _ (in_variant_integer z e) = whole_back kinds.Long 0 z refl
  number_back kinds.Currency _ _ (in_variant_integer z e) = currency_given_back z
  number_back kinds.Byte _ _ (in_variant_long z e) = whole_back kinds.Byte 0 z refl
  number_back kinds.Integer _ _ (in_variant_long z e) = whole_back kinds.Integer 0 z refl
  number_back kinds.Long _ _ (in_variant_long z e) = whole_back kinds.Long 0 z refl
  number_back kinds.Currency _ _ (in_variant_long z e) = currency_given_back z
  number_back kinds.Byte _ _ (in_variant_currency z m s e d) = whole_back kinds.Byte s (amount_in kinds.Byte (of_kind kinds.Currency z)) refl
  number_back kinds.Integer _ _ (in_variant_currency z m s e d) = whole_back kinds.Integer s (amount_in kinds.Integer (of_kind kinds.Currency z)) refl
  number_back kinds.Long _ _ (in_variant_currency z m s e d) = whole_back kinds.Long s (amount_in kinds.Long (of_kind kinds.Currency z)) refl
  number_back kinds.Currency _ _ (in_variant_currency z m s e d) =
      checked_back types.currency (fits kinds.Currency z) s (v.Cur z) (n.Decimal m s) (currency_back z m s d) (λ f. currencies z m s f d)
  number_back k _ _ (in_variant_text units) = tt

  boolean_back : (a : Value6) (x : ValueN) → Matches are_same types.variant a x
      → Agrees (Matches are_same types.boolean) (six.to_boolean a) (then_answer (six.to_boolean a) (of_variant (scale_of x)))
  boolean_back _ _ in_variant_empty = (n.Boolean false, refl, booleans false)
  boolean_back _ _ (in_variant_boolean b) = (n.Boolean b, refl, booleans b)
  boolean_back _ _ (in_variant_byte m e) = (n.Boolean (is_nonzero (pos m)), refl, booleans (is_nonzero (pos m)))
  boolean_back _ _ (in_variant_integer z e) = (n.Boolean (is_nonzero z), refl, booleans (is_nonzero z))
  boolean_back _ _ (in_variant_long z e) = (n.Boolean (is_nonzero z), refl, booleans (is_nonzero z))
  boolean_back _ _ (in_variant_currency z m s e d) = (n.Boolean (is_nonzero z), refl, booleans (is_nonzero z))
  boolean_back _ _ (in_variant_text units) = tt

  -- a conversion of a Variant by its support function
  by_support : (t : Ty) (a : Value6) (x : ValueN) → Matches are_same types.variant a x
      → Agrees (Matches are_same t) (coerce a t) (then_answer (coerce a t) (of_variant (scale_of x)))
      → Agrees (Matches are_same t) (coerce a t) (support.var_as t x)
  by_support t a x h given =
      subst (λ q. Agrees (Matches are_same t) (coerce a t) q)
      (sym (ap (λ o. then_answer (on_variant (λ a. coerce a t) o) (of_variant (scale_of x))) (same_variant are_same a x h))) given

  text_back : (a : Value6) (x : ValueN) → Matches are_same types.variant a x
      → Agrees (Matches are_same types.str) (then_answer (text_of a) (λ units. gives (v.Str units))) (support.var_str x)
  text_back _ _ in_variant_empty = (n.Nothing, refl, empty_text)
  text_back _ _ (in_variant_boolean b) = (n.Str _, refl, texts _)
  text_back _ _ (in_variant_byte m e) = (n.Str _, refl, texts _)
  text_back _ _ (in_variant_integer z e) = (n.Str _, refl, texts _)
  text_back _ _ (in_variant_long z e) = (n.Str _, refl, texts _)
  text_back _ _ (in_variant_currency z m s e d) =
      (n.Str (currency_text z), ap (λ o. then_answer (on_variant text_of o) (λ units. gives (n.Str units))) (same_variant are_same _ _ (in_variant_currency z m s e d)), texts (currency_text z))
  text_back _ _ (in_variant_text units) = (n.Str units, refl, texts units)

  variant_back : (a : Value6) (x : ValueN) → Matches are_same types.variant a x → Agrees (Matches are_same types.variant) (six.to_variant a) (gives x)
  variant_back _ _ in_variant_empty = (n.Nothing, refl, in_variant_empty)
  variant_back _ _ (in_variant_boolean b) = (n.Boolean b, refl, in_variant_boolean b)
  variant_back _ _ (in_variant_byte m e) = (n.Byte m, refl, in_variant_byte m e)
  variant_back _ _ (in_variant_integer z e) = (n.Short z, refl, in_variant_integer z e)
  variant_back _ _ (in_variant_long z e) = (n.Integer z, refl, in_variant_long z e)
  variant_back _ _ (in_variant_currency z m s e d) = (n.Decimal m s, refl, in_variant_currency z m s e d)
  variant_back _ _ (in_variant_text units) = (n.Str units, refl, in_variant_text units)

  pub from_variant : (t : Ty) → IsSameFromVariant are_same t
  from_variant types.boolean a x y h = by_support types.boolean a x h (boolean_back a x h)
  from_variant types.byte a x y h = by_support types.byte a x h (number_back kinds.Byte a x h)
  from_variant types.integer a x y h = by_support types.integer a x h (number_back kinds.Integer a x h)
  from_variant types.long a x y h = by_support types.long a x h (number_back kinds.Long a x h)
  from_variant types.currency a x y h = by_support types.currency a x h (number_back kinds.Currency a x h)
  from_variant types.str a x y h = text_back a x h
  from_variant (types.fixed k) a x y h = tt
  from_variant (types.user k) a x y h = tt
  from_variant (types.class k) a x y h = tt
  from_variant types.object a x y h = tt
  from_variant types.variant a x y h = variant_back a x h
  from_variant (types.array element dimensions) a x y h = tt
  from_variant types.nothing a x y h = tt
  from_variant types.unknown a x y h = tt
