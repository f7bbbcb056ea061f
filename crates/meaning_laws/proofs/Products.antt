-- Products of whole numbers and powers of ten.
use Rattle.std.proofs.Common.{◌≡◌, ℕ, zero, suc, ◌+◌, ◌*◌, ◌-◌, arith, sym, ◌∙◌, ap, refl, ℤ, pos, negsuc, neg_ℤ, ◌+ℤ◌, ◌-ℤ◌, ◌*ℤ◌}
use Rattle.std.proofs.Math.Decide.{dec_le}
use Rattle.std.proofs.Math.IntN.{+ℤ_comm}
use Rattle.std.proofs.lemmas.Int.{ints}

minus_times : (n k : ℕ) → neg_ℤ (pos n) *ℤ pos k ≡ neg_ℤ (pos (n * k))
minus_times zero k = let e : zero * k ≡ 0 = omega arith in ap pos e ∙ ap (λ n. neg_ℤ (pos n)) (sym e)
minus_times (suc n) k = refl

times_minus : (n k : ℕ) → pos n *ℤ neg_ℤ (pos k) ≡ neg_ℤ (pos (n * k))
times_minus n zero = let e : n * zero ≡ 0 = omega arith in ap pos e ∙ ap (λ n. neg_ℤ (pos n)) (sym e)
times_minus n (suc k) = refl

minus_times_minus : (n k : ℕ) → negsuc n *ℤ neg_ℤ (pos k) ≡ pos (suc n * k)
minus_times_minus n zero = let e : suc n * zero ≡ 0 = omega arith in ap (λ n. neg_ℤ (pos n)) e ∙ ap pos (sym e)
minus_times_minus n (suc k) = refl

difference_times : (a b k : ℕ) → (pos a -ℤ pos b) *ℤ pos k ≡ pos (a * k) -ℤ pos (b * k)
difference_times a b k = elim (dec_le b a) [
  | yes le ↦ (let e : pos a -ℤ pos b ≡ pos (a - b) = omega (arith, ints) in
      let f : a ≡ a - b + b = omega arith in
      let g = ap (λ n. n * k) f in
      ap (λ z. z *ℤ pos k) e ∙ omega (arith, ints, g))
  | no gt ↦ (let e : pos a -ℤ pos b ≡ neg_ℤ (pos (b - a)) = omega (arith, ints) in
      let f : b ≡ b - a + a = omega arith in
      let g = ap (λ n. n * k) f in
      ap (λ z. z *ℤ pos k) e ∙ minus_times (b - a) k ∙ omega (arith, ints, g))
]

pub sum_scales : (a b : ℤ) (k : ℕ) → (a +ℤ b) *ℤ pos k ≡ a *ℤ pos k +ℤ b *ℤ pos k
sum_scales (pos a) (pos b) k = ap pos (omega arith)
sum_scales (pos a) (negsuc b) k = difference_times a (suc b) k
sum_scales (negsuc a) (pos b) k =
    ap (λ z. z *ℤ pos k) (+ℤ_comm (negsuc a) (pos b)) ∙ difference_times b (suc a) k ∙ +ℤ_comm (pos (b * k)) (neg_ℤ (pos (suc a * k)))
sum_scales (negsuc a) (negsuc b) k = omega (arith, ints)

pub minus_scales : (a : ℤ) (k : ℕ) → neg_ℤ a *ℤ pos k ≡ neg_ℤ (a *ℤ pos k)
minus_scales a k = grind (arith, ints)

pub difference_scales : (a b : ℤ) (k : ℕ) → (a -ℤ b) *ℤ pos k ≡ a *ℤ pos k -ℤ b *ℤ pos k
difference_scales a b k = sum_scales a (neg_ℤ b) k ∙ ap (λ z. a *ℤ pos k +ℤ z) (minus_scales b k)

pub scales_twice : (a : ℤ) (j k : ℕ) → (a *ℤ pos j) *ℤ pos k ≡ a *ℤ pos (j * k)
scales_twice (pos a) j k = ap pos (omega arith)
scales_twice (negsuc a) j k = minus_times (suc a * j) k ∙ ap (λ n. neg_ℤ (pos n)) (omega arith)

pub product_scales : (a b : ℤ) (k : ℕ) → (a *ℤ b) *ℤ pos k ≡ a *ℤ (b *ℤ pos k)
product_scales (pos a) (pos b) k = ap pos (omega arith)
product_scales (pos a) (negsuc b) k =
    minus_times (a * suc b) k ∙ ap (λ n. neg_ℤ (pos n)) (omega arith) ∙ sym (times_minus a (suc b * k))
product_scales (negsuc a) (pos b) k = minus_times (suc a * b) k ∙ ap (λ n. neg_ℤ (pos n)) (omega arith)
product_scales (negsuc a) (negsuc b) k = ap pos (omega arith) ∙ sym (minus_times_minus a (suc b * k))
