-- The bits of a number that is made of bits.
use Rattle.std.proofs.Common.{◌≡◌, ℕ, zero, suc, ◌+◌, ◌*◌, ◌/◌, ◌%◌, ◌≤◌, Bool, true, false, ℤ, pos, negsuc, refl, ap, ◌∙◌, arith}
use Rattle.std.specs.Prelude.{◌==◌}
use Rattle.std.specs.Int.{bit_at}
use Rattle.std.proofs.lemmas.Nat.Bits.{bit_at_lowest, bit_at-suc}
use Rattle.vb6_meaning.specs.Bits.{bit, with_lowest, of_sign, from_bits, bitwise}

lowest : (s : Bool) (z : ℤ) → bit (with_lowest s z) 0 ≡ s
lowest true (pos n) = let e : (n * 2 + 1) % 2 ≡ 1 = omega arith in ap (λ t. t == 1) (bit_at_lowest (n * 2 + 1) ∙ e)
lowest false (pos n) = let e : (n * 2) % 2 ≡ 0 = omega arith in ap (λ t. t == 1) (bit_at_lowest (n * 2) ∙ e)
lowest true (negsuc n) = let e : (n * 2) % 2 ≡ 0 = omega arith in ap (λ t. t == 0) (bit_at_lowest (n * 2) ∙ e)
lowest false (negsuc n) = let e : (n * 2 + 1) % 2 ≡ 1 = omega arith in ap (λ t. t == 0) (bit_at_lowest (n * 2 + 1) ∙ e)

higher : (s : Bool) (z : ℤ) (k : ℕ) → bit (with_lowest s z) (suc k) ≡ bit z k
higher true (pos n) k = let e : (n * 2 + 1) / 2 ≡ n = omega arith in ap (λ t. t == 1) (bit_at-suc (n * 2 + 1) k ∙ ap (λ m. bit_at m k) e)
higher false (pos n) k = let e : n * 2 / 2 ≡ n = omega arith in ap (λ t. t == 1) (bit_at-suc (n * 2) k ∙ ap (λ m. bit_at m k) e)
higher true (negsuc n) k = let e : n * 2 / 2 ≡ n = omega arith in ap (λ t. t == 0) (bit_at-suc (n * 2) k ∙ ap (λ m. bit_at m k) e)
higher false (negsuc n) k = let e : (n * 2 + 1) / 2 ≡ n = omega arith in ap (λ t. t == 0) (bit_at-suc (n * 2 + 1) k ∙ ap (λ m. bit_at m k) e)

of_sign_bit : (s : Bool) → bit (of_sign s) 0 ≡ s
of_sign_bit true = refl
of_sign_bit false = refl

from_bits_bit : (w : ℕ) (b : ℕ → Bool) (k : ℕ) → k ≤ w → bit (from_bits w b) k ≡ b k
unfolding from_bits
from_bits_bit zero b zero le = of_sign_bit (b 0)
from_bits_bit zero b (suc k) le = absurd (omega arith)
from_bits_bit (suc w) b zero le = lowest (b 0) (from_bits w (λ k. b (suc k)))
from_bits_bit (suc w) b (suc k) le = higher (b 0) (from_bits w (λ k. b (suc k))) k ∙ from_bits_bit w (λ k. b (suc k)) k (omega arith)

pub bit_by_bit : (f : Bool → Bool → Bool) (x y : ℤ) (k : ℕ) → k ≤ 31 → bit (bitwise f x y) k ≡ f (bit x k) (bit y k)
bit_by_bit f x y k le = from_bits_bit 31 (λ k. f (bit x k) (bit y k)) k le
