-- Numbers that don't fall.
use Rattle.std.proofs.Common.{ℕ, ◌≤◌, List, [], ◌∷◌, arith}
use Rattle.line_order.specs.Order.{AreRising}

-- what rises from a number rises from a lower one
pub from_lower : (low high : ℕ) (ns : List ℕ) → low ≤ high → AreRising high ns → AreRising low ns
from_lower low high [] h rising = tt
from_lower low high (n ∷ ns) h rising = (omega (arith, h, rising.0), rising.1)

-- and so does what stands behind its first number
pub behind_first : (low n : ℕ) (ns : List ℕ) → AreRising low (n ∷ ns) → AreRising low ns
behind_first low n ns rising = from_lower low n ns rising.0 rising.1

-- what rises from a number rises behind it
pub again : (n : ℕ) (ns : List ℕ) → AreRising n ns → AreRising n (n ∷ ns)
again n ns rising = (omega arith, rising)
