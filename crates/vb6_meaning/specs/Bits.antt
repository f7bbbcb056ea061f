-- The bits of whole numbers in two's complement.
use Rattle.std.specs.Prelude.{ℕ, zero, suc, ◌+◌, ◌*◌, ◌==◌, Bool, true, false, ℤ, pos, negsuc}
use Rattle.std.specs.Int.{bit_at}

-- bit k of a number; from some k on all bits are those of its sign
abbrev pub bit : ℤ → ℕ → Bool
bit (pos n) k = bit_at n k == 1
bit (negsuc n) k = bit_at n k == 0

-- the number with this lowest bit and these further ones
abbrev pub with_lowest : Bool → ℤ → ℤ
with_lowest false (pos n) = pos (n * 2)
with_lowest true (pos n) = pos (n * 2 + 1)
with_lowest false (negsuc n) = negsuc (n * 2 + 1)
with_lowest true (negsuc n) = negsuc (n * 2)

-- the number that is 0 or has all bits set
abbrev pub of_sign : Bool → ℤ
of_sign false = pos 0
of_sign true = negsuc 0

-- the number whose bits below w are b, and whose other bits are all b w
unfoldable pub from_bits : ℕ → (ℕ → Bool) → ℤ
from_bits zero b = of_sign (b 0)
from_bits (suc w) b = with_lowest (b 0) (from_bits w (λ k. b (suc k)))

-- an operator on the bits of two numbers of 32 bits
abbrev pub bitwise : (Bool → Bool → Bool) → ℤ → ℤ → ℤ
bitwise f x y = from_bits 31 (λ k. f (bit x k) (bit y k))
