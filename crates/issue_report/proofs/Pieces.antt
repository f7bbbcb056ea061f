-- What is appended piece by piece.
use Rattle.std.proofs.Common.{◌≡◌, ℕ, List, ◌++◌, append_assoc}

pub three_pieces : (start a b c to_a to_b to_c : List ℕ) → to_a ≡ start ++ a → to_b ≡ to_a ++ b → to_c ≡ to_b ++ c → to_c ≡ start ++ (a ++ b ++ c)
three_pieces start a b c to_a to_b to_c p q r = rw (r, q, p) (simp append_assoc)
