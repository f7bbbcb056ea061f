-- Sums, differences, products and minus of Currencies, which are written as Decimals.
use Rattle.std.proofs.Common.{◌≡◌, ℕ, zero, suc, ◌+◌, ◌*◌, ◌-◌, ◌^◌, ◌<◌, ◌≤◌, max, lit<, arith, sym, ◌∙◌, ap, ap₂, subst, refl, Bool, true, false, not, cond, ◌&&◌, ◌||◌, ℤ, pos, negsuc, neg_ℤ, ◌+ℤ◌, ◌-ℤ◌, ◌*ℤ◌, unsigned_abs}
use Rattle.std.specs.Prelude.{nat_lt, if◌then◌else◌}
use Rattle.std.specs.Ordering.{int_cmp, is_lt, is_gt}
use Rattle.std.proofs.Math.IntN.{*ℤ_comm}
use Rattle.std.proofs.Math.Nat.{le-mul_of_pos_right, mul-le-mul}
use Rattle.std.proofs.lemmas.Nat.{pow-add}
use Rattle.std.proofs.lemmas.Int.{unsigned_abs-mul, ints}
use Rattle.std.proofs.lemmas.Bool.Decides.{nat_tests}
use Rattle.vb6_meaning.specs.Answers.{gives, raises, outside, then_answer}
use Rattle.vb6_meaning.specs.declared.number.NumberKind.TheVariants as kinds
use Rattle.vb6_meaning.specs.Kinds as six
use Rattle.vb6_meaning.specs.Kinds.{fits}
use Rattle.net_tree.specs.declared.expression.NetBin.TheVariants as op
use Rattle.net_meaning.specs.declared.value.ValueN.{ValueN}
use Rattle.net_meaning.specs.declared.value.ValueN.TheVariants as n
use Rattle.net_meaning.specs.Decimals.{is_decimal, decimal, decimal_row, minus_decimal, at_scale, order}
use Rattle.net_meaning.specs.Support.{cur, is_past_currency, least_currency, greatest_currency}
use Rattle.net_meaning.specs.ValueMatch.{IsTenThousandths}
use Rattle.net_meaning.specs.SameValues.{Agrees}
use Rattle.net_meaning.proofs.Powers.{power_positive}
use Rattle.meaning_laws.proofs.Products.{sum_scales, difference_scales, minus_scales, scales_twice, product_scales}
use Rattle.meaning_laws.proofs.NetNumbers.{NetNumber, decimal_number}
use Rattle.std.specs.declared.cmp.Ordering.TheVariants.{Less, Equal, Greater}
use Rattle.meaning_laws.proofs.Operands.{currency_size}
use Rattle.meaning_laws.proofs.RoundingScales.{test_at}

pub small_is_decimal : (z m : ℤ) (s : ℕ) → unsigned_abs z < 2 ^ 96 → IsTenThousandths z m s → is_decimal m s ≡ true
small_is_decimal z m s h e =
    let size = ap unsigned_abs (sym e.1) ∙ unsigned_abs-mul m (pos (10 ^ (4 - s))) in
    let least = le-mul_of_pos_right (unsigned_abs m) (power_positive (4 - s)) in
    let small : unsigned_abs m < 2 ^ 96 = omega (arith, size, least, h) in
    let scale : s ≤ 28 = omega (arith, e.0) in
    grind (arith, nat_tests)

-- `Cur` checks the range

by_limit : (b c : Bool) (q : ℤ) (w : ValueN) → c ≡ not b → (b ≡ true → NetNumber kinds.Currency q w)
    → Agrees (NetNumber kinds.Currency) (cond b (gives q) (raises 6)) (if c then raises 6 else gives w)
by_limit true true q w e h = cc
by_limit true false q w e h = (w, refl, h refl)
by_limit false true q w e h = refl
by_limit false false q w e h = cc

past_limits : (q : ℤ) → (is_lt (int_cmp q least_currency) || is_gt (int_cmp q greatest_currency)) ≡ not (fits kinds.Currency q)
past_limits (pos m) = grind (arith, nat_tests)
past_limits (negsuc m) = grind (arith, nat_tests)

pub cur_checked : (q m : ℤ) (s : ℕ) → unsigned_abs q < 2 ^ 96 → IsTenThousandths q m s → Agrees (NetNumber kinds.Currency) (six.checked kinds.Currency q) (cur (n.Decimal m s))
cur_checked q m s h e =
    let four : max s 4 ≡ 4 = omega (arith, e.0) in
    let at : (limit : ℤ) → at_scale limit 4 4 ≡ limit → order m s limit 4 ≡ int_cmp q limit =
    λ limit own. ap (λ w. int_cmp (at_scale m s w) (at_scale limit 4 w)) four ∙ ap₂ int_cmp e.1 own in
    let past : is_past_currency m s ≡ not (fits kinds.Currency q) =
    ap₂ (λ a b. is_lt a || is_gt b) (at least_currency refl) (at greatest_currency refl) ∙ past_limits q in
    let given : cur (n.Decimal m s) ≡ (if is_past_currency m s then raises 6 else gives (n.Decimal m s)) =
    ap (λ b. if b then (if is_past_currency m s then raises 6 else gives (n.Decimal m s)) else outside) (small_is_decimal q m s h e) in
    subst (λ a. Agrees (NetNumber kinds.Currency) (six.checked kinds.Currency q) a) (sym given)
    (by_limit (fits kinds.Currency q) (is_past_currency m s) q (n.Decimal m s) past (λ f. decimal_number q m s f e))

-- two numbers at the larger scale

raised : (z m : ℤ) (s u : ℕ) → s ≤ u → u ≤ 4 → IsTenThousandths z m s → at_scale m s u *ℤ pos (10 ^ (4 - u)) ≡ z
raised z m s u le most e =
    let steps : (u - s) + (4 - u) ≡ 4 - s = omega (arith, e.0) in
    scales_twice m (10 ^ (u - s)) (10 ^ (4 - u))
    ∙ ap (λ p. m *ℤ pos p) (sym (pow-add 10 (u - s) (4 - u)) ∙ ap (λ k. 10 ^ k) steps) ∙ e.1

pub on_larger_scale : (f : ℤ → ℤ → ℤ) → ((a b : ℤ) (k : ℕ) → f a b *ℤ pos k ≡ f (a *ℤ pos k) (b *ℤ pos k))
    → (z m w l : ℤ) (s t : ℕ) → IsTenThousandths z m s → IsTenThousandths w l t
    → IsTenThousandths (f z w) (f (at_scale m s (max s t)) (at_scale l t (max s t))) (max s t)
on_larger_scale f scales z m w l s t d e =
    let most : max s t ≤ 4 = omega (arith, d.0, e.0) in (
      most,
      scales (at_scale m s (max s t)) (at_scale l t (max s t)) (10 ^ (4 - max s t))
          ∙ ap₂ f (raised z m s (max s t) (omega arith) most d) (raised w l t (max s t) (omega arith) most e),
    )

-- what an operator on two Decimals gives, where both are and the result is one
row_gives : (q r : ℤ) (s t u : ℕ) (a b : Bool) → a ≡ true → b ≡ true → is_decimal r u ≡ true
    → (if a && b then decimal r u else outside) ≡ gives (n.Decimal r u)
row_gives q r s t u true true d e h = ap (λ b. if b then gives (n.Decimal r u) else outside) h
row_gives q r s t u true false d e h = cc
row_gives q r s t u false b d e h = cc

sum_size : (z w : ℤ) → unsigned_abs z ≤ 2 ^ 63 → unsigned_abs w ≤ 2 ^ 63 → unsigned_abs (z +ℤ w) < 2 ^ 96
sum_size (pos a) (pos b) g h = omega arith
sum_size (pos a) (negsuc b) g h = omega (arith, ints)
sum_size (negsuc a) (pos b) g h = omega (arith, ints)
sum_size (negsuc a) (negsuc b) g h = omega arith

minus_size : (w : ℤ) → unsigned_abs (neg_ℤ w) ≡ unsigned_abs w
minus_size (pos zero) = refl
minus_size (pos (suc n)) = refl
minus_size (negsuc n) = refl

module _ (z m w l : ℤ) (s t : ℕ) (fz : fits kinds.Currency z ≡ true) (fw : fits kinds.Currency w ≡ true)
    (d : IsTenThousandths z m s) (e : IsTenThousandths w l t) where
  size_z : unsigned_abs z ≤ 2 ^ 63
  size_z = currency_size z fz

  size_w : unsigned_abs w ≤ 2 ^ 63
  size_w = currency_size w fw

  left_is : is_decimal m s ≡ true
  left_is = small_is_decimal z m s (let g = size_z in omega (arith, g)) d

  right_is : is_decimal l t ≡ true
  right_is = small_is_decimal w l t (let g = size_w in omega (arith, g)) e

  pub currency_sum : Agrees (NetNumber kinds.Currency) (six.checked kinds.Currency (z +ℤ w)) (then_answer (decimal_row op.Add m s l t) cur)
  currency_sum =
      let q = z +ℤ w in
      let r = at_scale m s (max s t) +ℤ at_scale l t (max s t) in
      let is = on_larger_scale (λ a b. a +ℤ b) sum_scales z m w l s t d e in
      let small = sum_size z w size_z size_w in
      subst (λ a. Agrees (NetNumber kinds.Currency) (six.checked kinds.Currency q) (then_answer a cur))
      (sym (row_gives q r s t (max s t) (is_decimal m s) (is_decimal l t) left_is right_is (small_is_decimal q r (max s t) small is)))
      (cur_checked q r (max s t) small is)

  pub currency_difference : Agrees (NetNumber kinds.Currency) (six.checked kinds.Currency (z -ℤ w)) (then_answer (decimal_row op.Sub m s l t) cur)
  currency_difference =
      let q = z -ℤ w in
      let r = at_scale m s (max s t) -ℤ at_scale l t (max s t) in
      let is = on_larger_scale (λ a b. a -ℤ b) difference_scales z m w l s t d e in
      let size : unsigned_abs (neg_ℤ w) ≤ 2 ^ 63 = (let g = size_w in let f = minus_size w in omega (arith, g, f)) in
      let small = sum_size z (neg_ℤ w) size_z size in
      subst (λ a. Agrees (NetNumber kinds.Currency) (six.checked kinds.Currency q) (then_answer a cur))
      (sym (row_gives q r s t (max s t) (is_decimal m s) (is_decimal l t) left_is right_is (small_is_decimal q r (max s t) small is)))
      (cur_checked q r (max s t) small is)

pub currency_minus : (z m : ℤ) (s : ℕ) → fits kinds.Currency z ≡ true → IsTenThousandths z m s
    → Agrees (NetNumber kinds.Currency) (six.checked kinds.Currency (neg_ℤ z)) (then_answer (minus_decimal m s) cur)
currency_minus z m s f e =
    let size = currency_size z f in
    let same = minus_size z in
    let small : unsigned_abs (neg_ℤ z) < 2 ^ 96 = omega (arith, size, same) in
    let is : IsTenThousandths (neg_ℤ z) (neg_ℤ m) s = (e.0, minus_scales m (10 ^ (4 - s)) ∙ ap neg_ℤ e.1) in
    let given : minus_decimal m s ≡ gives (n.Decimal (neg_ℤ m) s) =
    ap (λ b. if b then gives (n.Decimal (neg_ℤ m) s) else outside) (small_is_decimal z m s (omega (arith, size)) e) in
    subst (λ a. Agrees (NetNumber kinds.Currency) (six.checked kinds.Currency (neg_ℤ z)) (then_answer a cur)) (sym given)
    (cur_checked (neg_ℤ z) (neg_ℤ m) s small is)

-- a product with a number in ones, from the left and from the right

product_size : (z w : ℤ) → unsigned_abs z ≤ 2 ^ 31 → unsigned_abs w ≤ 2 ^ 63 → unsigned_abs (z *ℤ w) < 2 ^ 96
product_size z w g h =
    let size = unsigned_abs-mul z w in
    let most = mul-le-mul g h in
    let small : 2 ^ 31 * 2 ^ 63 < 2 ^ 96 = lit< tt in
    omega (arith, size, most, small)

whole_is_decimal : (z : ℤ) → unsigned_abs z ≤ 2 ^ 31 → is_decimal z 0 ≡ true
whole_is_decimal z h = grind (arith, nat_tests)

pub currency_product_left : (z w l : ℤ) (t : ℕ) → unsigned_abs z ≤ 2 ^ 31 → fits kinds.Currency w ≡ true → IsTenThousandths w l t
    → Agrees (NetNumber kinds.Currency) (six.checked kinds.Currency (z *ℤ w)) (then_answer (decimal_row op.Mul z 0 l t) cur)
currency_product_left z w l t g f e =
    let size = currency_size w f in
    let small = product_size z w g size in
    let none : 0 + t ≡ t = omega arith in
    let is : IsTenThousandths (z *ℤ w) (z *ℤ l) (0 + t) =
    (omega (arith, e.0), ap (λ k. z *ℤ l *ℤ pos (10 ^ (4 - k))) none ∙ product_scales z l (10 ^ (4 - t)) ∙ ap (λ v. z *ℤ v) e.1) in
    let given = row_gives (z *ℤ w) (z *ℤ l) 0 t (0 + t) (is_decimal z 0) (is_decimal l t) (whole_is_decimal z g)
    (small_is_decimal w l t (omega (arith, size)) e) (small_is_decimal (z *ℤ w) (z *ℤ l) (0 + t) small is) in
    subst (λ a. Agrees (NetNumber kinds.Currency) (six.checked kinds.Currency (z *ℤ w)) (then_answer a cur)) (sym given)
    (cur_checked (z *ℤ w) (z *ℤ l) (0 + t) small is)

pub currency_product_right : (z w m : ℤ) (s : ℕ) → fits kinds.Currency z ≡ true → IsTenThousandths z m s → unsigned_abs w ≤ 2 ^ 31
    → Agrees (NetNumber kinds.Currency) (six.checked kinds.Currency (z *ℤ w)) (then_answer (decimal_row op.Mul m s w 0) cur)
currency_product_right z w m s f e g =
    let size = currency_size z f in
    let same : z *ℤ w ≡ w *ℤ z = *ℤ_comm z w in
    let small : unsigned_abs (z *ℤ w) < 2 ^ 96 = (let h = product_size w z g size in let k = ap unsigned_abs same in omega (arith, h, k)) in
    let none : s + 0 ≡ s = omega arith in
    let is : IsTenThousandths (z *ℤ w) (m *ℤ w) (s + 0) =
    (omega (arith, e.0), ap₂ (λ p k. p *ℤ pos (10 ^ (4 - k))) (*ℤ_comm m w) none ∙ product_scales w m (10 ^ (4 - s)) ∙ ap (λ v. w *ℤ v) e.1 ∙ sym same) in
    let given = row_gives (z *ℤ w) (m *ℤ w) s 0 (s + 0) (is_decimal m s) (is_decimal w 0)
    (small_is_decimal z m s (omega (arith, size)) e) (whole_is_decimal w g) (small_is_decimal (z *ℤ w) (m *ℤ w) (s + 0) small is) in
    subst (λ a. Agrees (NetNumber kinds.Currency) (six.checked kinds.Currency (z *ℤ w)) (then_answer a cur)) (sym given)
    (cur_checked (z *ℤ w) (m *ℤ w) (s + 0) small is)

-- comparisons

test_scales : (x y k : ℕ) → 0 < k → nat_lt (x * k) (y * k) ≡ nat_lt x y
test_scales x y k h = test_at (nat_lt x y) x y k h refl

minus_order : (p q : ℕ) → int_cmp (neg_ℤ (pos p)) (neg_ℤ (pos q)) ≡ int_cmp (pos q) (pos p)
minus_order zero zero = refl
minus_order zero (suc q) = grind (arith, nat_tests)
minus_order (suc p) zero = grind (arith, nat_tests)
minus_order (suc p) (suc q) = grind (arith, nat_tests)

above_minus : (p q : ℕ) → 0 < q → int_cmp (pos p) (neg_ℤ (pos q)) ≡ Greater
above_minus p zero h = absurd (omega (arith, h))
above_minus p (suc q) h = refl

below_plus : (p q : ℕ) → 0 < p → int_cmp (neg_ℤ (pos p)) (pos q) ≡ Less
below_plus zero q h = absurd (omega (arith, h))
below_plus (suc p) q h = refl

plus_scales : (x y k : ℕ) → 0 < k → int_cmp (pos (x * k)) (pos (y * k)) ≡ int_cmp (pos x) (pos y)
plus_scales x y k h = ap₂ (λ b c. cond b Less (cond c Greater Equal)) (test_scales x y k h) (test_scales y x k h)

order_scales : (a b : ℤ) (k : ℕ) → 0 < k → int_cmp (a *ℤ pos k) (b *ℤ pos k) ≡ int_cmp a b
order_scales (pos x) (pos y) k h = plus_scales x y k h
order_scales (pos x) (negsuc y) k h = above_minus (x * k) (suc y * k) (omega (arith, h))
order_scales (negsuc x) (pos y) k h = below_plus (suc x * k) (y * k) (omega (arith, h))
order_scales (negsuc x) (negsuc y) k h = minus_order (suc x * k) (suc y * k) ∙ plus_scales (suc y) (suc x) k h ∙ sym (minus_order (suc x) (suc y))

pub currency_order : (z m w l : ℤ) (s t : ℕ) → IsTenThousandths z m s → IsTenThousandths w l t → order m s l t ≡ int_cmp z w
currency_order z m w l s t d e =
    let most : max s t ≤ 4 = omega (arith, d.0, e.0) in
    sym (order_scales (at_scale m s (max s t)) (at_scale l t (max s t)) (10 ^ (4 - max s t)) (power_positive (4 - max s t)))
    ∙ ap₂ int_cmp (raised z m s (max s t) (omega arith) most d) (raised w l t (max s t) (omega arith) most e)

pub currencies_compared : (z m w l : ℤ) (s t : ℕ) → fits kinds.Currency z ≡ true → fits kinds.Currency w ≡ true
    → IsTenThousandths z m s → IsTenThousandths w l t → (is_decimal m s && is_decimal l t) ≡ true
currencies_compared z m w l s t fz fw d e =
    let g = currency_size z fz in
    let h = currency_size w fw in
    ap₂ (λ a b. a && b) (small_is_decimal z m s (omega (arith, g)) d) (small_is_decimal w l t (omega (arith, h)) e)
