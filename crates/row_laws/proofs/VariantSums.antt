-- The rows of sums, differences and negatives of Variants give the same values as those of Visual Basic 6.
use Rattle.std.proofs.Common.{◌≡◌, ℕ, zero, suc, ◌+◌, ◌*◌, ◌-◌, ◌/◌, ◌^◌, ◌<◌, lit≤, arith, refl, sym, ◌∙◌, ap, subst, Bool, true, false, cond, Option, Some, None, List, ◌++◌, length, ℤ, pos, negsuc, neg_ℤ, ◌+ℤ◌, ◌-ℤ◌, ◌*ℤ◌}
use Rattle.std.specs.Prelude.{int_div, max, nat_lt}
use Rattle.std.proofs.Math.IntN.{*ℤ_comm}
use Rattle.std.proofs.Math.Nat.{mul-div_cancel}
use Rattle.vb_tree.specs.BoundTree as types
use Rattle.vb_tree.specs.declared.bound.Op6.{Op6}
use Rattle.vb_tree.specs.declared.bound.Op6.TheVariants.{Variant, VariantUn}
use Rattle.vb_tree.specs.declared.expression.BinOp.TheVariants as b
use Rattle.vb_tree.specs.declared.expression.UnOp.TheVariants as u
use Rattle.vb_tree.specs.declared.value.Value6.{Value6}
use Rattle.vb_tree.specs.declared.value.Value6.TheVariants as v
use Rattle.vb6_meaning.specs.Answers.{Answer, gives, outside, then_answer}
use Rattle.vb6_meaning.specs.Kinds.{fits, wider, promoted, promoted_integer, promoted_long}
use Rattle.vb6_meaning.specs.Numbers.{of_kind, amount_in}
use Rattle.vb6_meaning.specs.Values as six
use Rattle.vb6_meaning.specs.Values.{are_currencies, held_number, held_sum, sum, difference, common, text, operate}
use Rattle.vb6_meaning.specs.declared.number.Number.{Number}
use Rattle.vb6_meaning.specs.declared.number.NumberKind.{NumberKind}
use Rattle.vb6_meaning.specs.declared.number.NumberKind.TheVariants as kinds
use Rattle.net_meaning.specs.declared.value.ValueN.{ValueN}
use Rattle.net_meaning.specs.declared.value.ValueN.TheVariants as n
use Rattle.net_meaning.specs.Decimals.{at_scale}
use Rattle.net_meaning.specs.SameValues.{Agrees}
use Rattle.net_meaning.specs.Support.{of_variant, scale_of, var_row, var_add, var_sub, var_mul}
use Rattle.net_meaning.specs.ValueMatch.{Matches, IsTenThousandths, in_variant_empty, in_variant_boolean, in_variant_byte, in_variant_integer, in_variant_long, in_variant_currency, in_variant_text}
use Rattle.net_meaning.proofs.Powers.{power_positive}
use Rattle.meaning_laws.proofs.Currencies.{on_larger_scale}
use Rattle.meaning_laws.proofs.Products.{sum_scales, difference_scales, minus_scales, product_scales}
use Rattle.row_laws.specs.Library.{VariantGives, SameNegativeOfVariant}
use Rattle.row_laws.proofs.VariantValues.{on_both}

-- ---- ten-thousandths at their own scale

minus_quotient : (a k : ℕ) → 0 < k → int_div (neg_ℤ (pos (suc a * k))) (pos k) ≡ neg_ℤ (pos (suc a))
minus_quotient a k h = by_size (suc a * k) refl (omega (arith, h))
  where
    by_size : (r : ℕ) → suc a * k ≡ r → 0 < r → int_div (neg_ℤ (pos r)) (pos k) ≡ neg_ℤ (pos (suc a))
    by_size zero e f = absurd (omega (arith, f))
    by_size (suc r) e f = ap (λ q. neg_ℤ (pos (q / k))) (sym e) ∙ ap (λ q. neg_ℤ (pos q)) (mul-div_cancel (suc a) h)

exact : (m : ℤ) (k : ℕ) → 0 < k → int_div (m *ℤ pos k) (pos k) ≡ m
exact (pos a) k h = ap pos (mul-div_cancel a h)
exact (negsuc a) k h = minus_quotient a k h

currency_at : (z m : ℤ) (s : ℕ) → IsTenThousandths z m s → of_variant s (v.Cur z) ≡ gives (n.Decimal m s)
currency_at z m s d =
    ap (λ w. gives (n.Decimal w s))
    (ap (λ w. int_div w (pos (10 ^ (4 - s)))) (sym d.1) ∙ exact m (10 ^ (4 - s)) (power_positive (4 - s)))

abbrev Scaled : ℤ → ℕ → Type 0
Scaled z s = (m : ℤ) × IsTenThousandths z m s

whole_scaled : (z : ℤ) → Scaled (pos 10000 *ℤ z) 0
whole_scaled z = (z, (lit≤ tt, *ℤ_comm z (pos 10000)))

module _ (same : ℕ → ℕ → Bool) where
  -- an answer that is given back at a scale as the value that matches
  abbrev Back : ℕ → Answer Value6 → Type 0
  Back s r = Agrees (Matches same types.variant) r (then_answer r (of_variant s))

  either_back : (c : Bool) (s : ℕ) (a : Value6) (r : Answer Value6) → (c ≡ true → (x : ValueN) × (of_variant s a ≡ gives x) × Matches same types.variant a x) → Back s r → Back s (cond c (gives a) r)
  either_back true s a r h k = h refl
  either_back false s a r h k = k

  text_back : (s : ℕ) (units : List ℕ) → Back s (text units)
  text_back s units = either_back (nat_lt (length units) (2 ^ 31)) s (v.Str units) outside (λ e. (n.Str units, refl, in_variant_text units)) tt

  long_back : (z : ℤ) (s : ℕ) → Back s (promoted_long z)
  long_back z s = either_back (fits kinds.Long z) s (v.Long z) outside (λ e. (n.Integer z, refl, in_variant_long z e)) tt

  integer_back : (z : ℤ) (s : ℕ) → Back s (promoted_integer z)
  integer_back z s = either_back (fits kinds.Integer z) s (v.Int z) (promoted_long z) (λ e. (n.Short z, refl, in_variant_integer z e)) (long_back z s)

  byte_back : (z : ℤ) (s : ℕ) → Back s (promoted kinds.Byte z)
  byte_back (pos m) s = either_back (fits kinds.Byte (pos m)) s (v.Byte m) (promoted_integer (pos m)) (λ e. (n.Byte m, refl, in_variant_byte m e)) (integer_back (pos m) s)
  byte_back (negsuc m) s = integer_back (negsuc m) s

  currency_back : (z : ℤ) (s : ℕ) → Scaled z s → Back s (promoted kinds.Currency z)
  currency_back z s d = either_back (fits kinds.Currency z) s (v.Cur z) outside (λ e. (n.Decimal d.0 s, currency_at z d.0 s d.1, in_variant_currency z d.0 s e d.1)) tt

  promoted_back : (k : NumberKind) (f : NumberKind → ℤ) (s : ℕ) → Scaled (f kinds.Currency) s → Back s (promoted k (f k))
  promoted_back kinds.Byte f s d = byte_back (f kinds.Byte) s
  promoted_back kinds.Integer f s d = integer_back (f kinds.Integer) s
  promoted_back kinds.Long f s d = long_back (f kinds.Long) s
  promoted_back kinds.Currency f s d = currency_back (f kinds.Currency) s d

  -- ---- operands

  abbrev Held : Number → ValueN → Type 0
  Held M x = Scaled (amount_in kinds.Currency M) (scale_of x)

  of_some : (p M : Number) (x : ValueN) → ◌≡◌ {A = Option Number} (Some p) (Some M) → Held p x → Held M x
  of_some p M x e h = let same_number : p ≡ M = cc e in subst (λ q. Held q x) same_number h

  scaled : (a : Value6) (x : ValueN) → Matches same types.variant a x → (M : Number) → held_number a ≡ Some M → Held M x
  scaled _ x in_variant_empty M e = of_some (of_kind kinds.Integer (pos 0)) M n.Nothing e (whole_scaled (pos 0))
  scaled _ x (in_variant_boolean true) M e = of_some (of_kind kinds.Integer (negsuc 0)) M (n.Boolean true) e (whole_scaled (negsuc 0))
  scaled _ x (in_variant_boolean false) M e = of_some (of_kind kinds.Integer (pos 0)) M (n.Boolean false) e (whole_scaled (pos 0))
  scaled _ x (in_variant_byte m f) M e = of_some (of_kind kinds.Byte (pos m)) M (n.Byte m) e (whole_scaled (pos m))
  scaled _ x (in_variant_integer z f) M e = of_some (of_kind kinds.Integer z) M (n.Short z) e (whole_scaled z)
  scaled _ x (in_variant_long z f) M e = of_some (of_kind kinds.Long z) M (n.Integer z) e (whole_scaled z)
  scaled _ x (in_variant_currency z m s f d) M e = of_some (of_kind kinds.Currency z) M (n.Decimal m s) e (m, d)
  scaled _ x (in_variant_text units) M e = absurd (cc e)

  of_options : (s : ℕ) (f : Number → Number → Answer Value6) (p q : Option Number) → ((M N : Number) → p ≡ Some M → q ≡ Some N → Back s (f M N)) → Back s (six.on_numbers f p q)
  of_options s f (Some M) (Some N) h = h M N refl refl
  of_options s f (Some M) None h = tt
  of_options s f None q h = tt

  -- ---- sums and differences of numbers

  abbrev larger : ValueN → ValueN → ℕ
  larger x y = max (scale_of x) (scale_of y)

  on_scales : (f : ℤ → ℤ → ℤ) → ((p q : ℤ) (k : ℕ) → f p q *ℤ pos k ≡ f (p *ℤ pos k) (q *ℤ pos k)) → (x y : ValueN) (z w : ℤ) → Scaled z (scale_of x) → Scaled w (scale_of y) → Scaled (f z w) (larger x y)
  on_scales f scales x y z w d e =
      (f (at_scale d.0 (scale_of x) (larger x y)) (at_scale e.0 (scale_of y) (larger x y)), on_larger_scale f scales z d.0 w e.0 (scale_of x) (scale_of y) d.1 e.1)

  sums : (a c : Value6) (x y : ValueN) → Matches same types.variant a x → Matches same types.variant c y → Back (larger x y) (six.on_numbers (sum promoted) (held_number a) (held_number c))
  sums a c x y h k =
      of_options (larger x y) (sum promoted) (held_number a) (held_number c)
      (λ M N e f. promoted_back (common M N) (λ j. amount_in j M +ℤ amount_in j N) (larger x y)
      (on_scales (λ p q. p +ℤ q) sum_scales x y (amount_in kinds.Currency M) (amount_in kinds.Currency N) (scaled a x h M e) (scaled c y k N f)))

  differences : (a c : Value6) (x y : ValueN) → Matches same types.variant a x → Matches same types.variant c y → Back (larger x y) (six.on_numbers (difference promoted) (held_number a) (held_number c))
  differences a c x y h k =
      of_options (larger x y) (difference promoted) (held_number a) (held_number c)
      (λ M N e f. promoted_back (common M N) (λ j. amount_in j M -ℤ amount_in j N) (larger x y)
      (on_scales (λ p q. p -ℤ q) difference_scales x y (amount_in kinds.Currency M) (amount_in kinds.Currency N) (scaled a x h M e) (scaled c y k N f)))

  -- ---- sums of texts too

  text_sum : (s : List ℕ) (c : Value6) (y : ValueN) → Matches same types.variant c y → Back (larger (n.Str s) y) (held_sum (v.Str s) c)
  text_sum s _ _ in_variant_empty = text_back 0 s
  text_sum s _ _ (in_variant_boolean p) = tt
  text_sum s _ _ (in_variant_byte m e) = tt
  text_sum s _ _ (in_variant_integer z e) = tt
  text_sum s _ _ (in_variant_long z e) = tt
  text_sum s _ _ (in_variant_currency z m i e d) = tt
  text_sum s _ _ (in_variant_text units) = text_back 0 (s ++ units)

  empty_sum : (c : Value6) (y : ValueN) → Matches same types.variant c y → Back (larger n.Nothing y) (held_sum v.Empty c)
  empty_sum _ _ in_variant_empty = sums v.Empty v.Empty n.Nothing n.Nothing in_variant_empty in_variant_empty
  empty_sum _ _ (in_variant_boolean p) = sums v.Empty (v.Boolean p) n.Nothing (n.Boolean p) in_variant_empty (in_variant_boolean p)
  empty_sum _ _ (in_variant_byte m e) = sums v.Empty (v.Byte m) n.Nothing (n.Byte m) in_variant_empty (in_variant_byte m e)
  empty_sum _ _ (in_variant_integer z e) = sums v.Empty (v.Int z) n.Nothing (n.Short z) in_variant_empty (in_variant_integer z e)
  empty_sum _ _ (in_variant_long z e) = sums v.Empty (v.Long z) n.Nothing (n.Integer z) in_variant_empty (in_variant_long z e)
  empty_sum _ _ (in_variant_currency z m i e d) = sums v.Empty (v.Cur z) n.Nothing (n.Decimal m i) in_variant_empty (in_variant_currency z m i e d)
  empty_sum _ _ (in_variant_text units) = text_back 0 units

  added : (a c : Value6) (x y : ValueN) → Matches same types.variant a x → Matches same types.variant c y → Back (larger x y) (held_sum a c)
  added _ c _ y in_variant_empty k = empty_sum c y k
  added _ c _ y (in_variant_boolean p) k = sums (v.Boolean p) c (n.Boolean p) y (in_variant_boolean p) k
  added _ c _ y (in_variant_byte m e) k = sums (v.Byte m) c (n.Byte m) y (in_variant_byte m e) k
  added _ c _ y (in_variant_integer z e) k = sums (v.Int z) c (n.Short z) y (in_variant_integer z e) k
  added _ c _ y (in_variant_long z e) k = sums (v.Long z) c (n.Integer z) y (in_variant_long z e) k
  added _ c _ y (in_variant_currency z m i e d) k = sums (v.Cur z) c (n.Decimal m i) y (in_variant_currency z m i e d) k
  added _ c _ y (in_variant_text units) k = text_sum units c y k

  -- ---- negatives

  negated : (a : Value6) (x : ValueN) → Matches same types.variant a x → Back (scale_of x) (six.negative promoted (held_number a))
  negated _ _ in_variant_empty = integer_back (neg_ℤ (pos 0)) 0
  negated _ _ (in_variant_boolean true) = integer_back (neg_ℤ (negsuc 0)) 0
  negated _ _ (in_variant_boolean false) = integer_back (neg_ℤ (pos 0)) 0
  negated _ _ (in_variant_byte m e) = tt
  negated _ _ (in_variant_integer z e) = integer_back (neg_ℤ z) 0
  negated _ _ (in_variant_long z e) = long_back (neg_ℤ z) 0
  negated _ _ (in_variant_currency z m s e d) = currency_back (neg_ℤ z) s (neg_ℤ m, (d.0, minus_scales m (10 ^ (4 - s)) ∙ ap neg_ℤ d.1))
  negated _ _ (in_variant_text units) = tt

  -- ---- products: one factor at most is a Currency

  abbrev Factor : NumberKind → ℤ → ℕ → Type 0
  Factor kinds.Byte z s = s ≡ 0
  Factor kinds.Integer z s = s ≡ 0
  Factor kinds.Long z s = s ≡ 0
  Factor kinds.Currency z s = Scaled z s

  abbrev product_of : NumberKind → NumberKind → ℤ → ℤ → Answer Value6
  product_of k l p q = cond (are_currencies k l) outside (promoted (wider k l) (p *ℤ q))

  scaled_product : (p q : ℤ) (s t : ℕ) → s ≡ 0 → Scaled q t → Scaled (p *ℤ q) (s + t)
  scaled_product p q s t h e =
      let none : s + t ≡ t = omega (arith, h) in
      let le = e.1.0 in
      (p *ℤ e.0, (omega (arith, le, h), ap (λ k. p *ℤ e.0 *ℤ pos (10 ^ (4 - k))) none ∙ product_scales p e.0 (10 ^ (4 - t)) ∙ ap (λ z. p *ℤ z) e.1.1))

  other_product : (p q : ℤ) (s t : ℕ) → Scaled p s → t ≡ 0 → Scaled (p *ℤ q) (s + t)
  other_product p q s t d h =
      let swapped : t + s ≡ s + t = omega arith in
      subst (λ k. Scaled (p *ℤ q) k) swapped (subst (λ z. Scaled z (t + s)) (*ℤ_comm q p) (scaled_product q p t s h d))

  product_back : (k l : NumberKind) (p q : ℤ) (s t : ℕ) → Factor k p s → Factor l q t → Back (s + t) (product_of k l p q)
  product_back kinds.Byte kinds.Byte p q s t d e = byte_back (p *ℤ q) (s + t)
  product_back kinds.Byte kinds.Integer p q s t d e = integer_back (p *ℤ q) (s + t)
  product_back kinds.Byte kinds.Long p q s t d e = long_back (p *ℤ q) (s + t)
  product_back kinds.Byte kinds.Currency p q s t d e = currency_back (p *ℤ q) (s + t) (scaled_product p q s t d e)
  product_back kinds.Integer kinds.Byte p q s t d e = integer_back (p *ℤ q) (s + t)
  product_back kinds.Integer kinds.Integer p q s t d e = integer_back (p *ℤ q) (s + t)
  product_back kinds.Integer kinds.Long p q s t d e = long_back (p *ℤ q) (s + t)
  product_back kinds.Integer kinds.Currency p q s t d e = currency_back (p *ℤ q) (s + t) (scaled_product p q s t d e)
  product_back kinds.Long kinds.Byte p q s t d e = long_back (p *ℤ q) (s + t)
  product_back kinds.Long kinds.Integer p q s t d e = long_back (p *ℤ q) (s + t)
  product_back kinds.Long kinds.Long p q s t d e = long_back (p *ℤ q) (s + t)
  product_back kinds.Long kinds.Currency p q s t d e = currency_back (p *ℤ q) (s + t) (scaled_product p q s t d e)
  product_back kinds.Currency kinds.Byte p q s t d e = currency_back (p *ℤ q) (s + t) (other_product p q s t d e)
  product_back kinds.Currency kinds.Integer p q s t d e = currency_back (p *ℤ q) (s + t) (other_product p q s t d e)
  product_back kinds.Currency kinds.Long p q s t d e = currency_back (p *ℤ q) (s + t) (other_product p q s t d e)
  product_back kinds.Currency kinds.Currency p q s t d e = tt

  factor_of : (p M : Number) (s : ℕ) → ◌≡◌ {A = Option Number} (Some p) (Some M) → Factor p.kind p.amount s → Factor M.kind M.amount s
  factor_of p M s e h = let same_number : p ≡ M = cc e in subst (λ (q : Number). Factor q.kind q.amount s) same_number h

  factor : (a : Value6) (x : ValueN) → Matches same types.variant a x → (M : Number) → held_number a ≡ Some M → Factor M.kind M.amount (scale_of x)
  factor _ x in_variant_empty M e = factor_of (of_kind kinds.Integer (pos 0)) M 0 e refl
  factor _ x (in_variant_boolean true) M e = factor_of (of_kind kinds.Integer (negsuc 0)) M 0 e refl
  factor _ x (in_variant_boolean false) M e = factor_of (of_kind kinds.Integer (pos 0)) M 0 e refl
  factor _ x (in_variant_byte m f) M e = factor_of (of_kind kinds.Byte (pos m)) M 0 e refl
  factor _ x (in_variant_integer z f) M e = factor_of (of_kind kinds.Integer z) M 0 e refl
  factor _ x (in_variant_long z f) M e = factor_of (of_kind kinds.Long z) M 0 e refl
  factor _ x (in_variant_currency z m s f d) M e = factor_of (of_kind kinds.Currency z) M s e (m, d)
  factor _ x (in_variant_text units) M e = absurd (cc e)

  products : (a c : Value6) (x y : ValueN) → Matches same types.variant a x → Matches same types.variant c y → Back (scale_of x + scale_of y) (six.on_numbers (six.product promoted) (held_number a) (held_number c))
  products a c x y h k =
      of_options (scale_of x + scale_of y) (six.product promoted) (held_number a) (held_number c)
      (λ M N e f. product_back M.kind N.kind M.amount N.amount (scale_of x) (scale_of y) (factor a x h M e) (factor c y k N f))

  given_back : (o : Op6) (s : ℕ) (a c : Value6) (x y : ValueN) → Matches same types.variant a x → Matches same types.variant c y → Back s (operate o a c)
      → Agrees (Matches same types.variant) (operate o a c) (var_row o s x y)
  given_back o s a c x y h k e =
      subst (λ q. Agrees (Matches same types.variant) (operate o a c) (then_answer q (of_variant s))) (sym (on_both same (operate o) a c x y h k)) e

pub add_same : VariantGives b.Add types.variant var_add
add_same same a c x y h k = given_back same (Variant b.Add) (max (scale_of x) (scale_of y)) a c x y h k (added same a c x y h k)

pub subtract_same : VariantGives b.Sub types.variant var_sub
subtract_same same a c x y h k = given_back same (Variant b.Sub) (max (scale_of x) (scale_of y)) a c x y h k (differences same a c x y h k)

pub negative_same : SameNegativeOfVariant
negative_same same a x h = given_back same (VariantUn u.Neg) (scale_of x) a a x x h h (negated same a x h)

pub multiply_same : VariantGives b.Mul types.variant var_mul
multiply_same same a c x y h k = given_back same (Variant b.Mul) (scale_of x + scale_of y) a c x y h k (products same a c x y h k)
