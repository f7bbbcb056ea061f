-- How many elements arrays have.
use Rattle.std.proofs.Common.{◌≡◌, refl, ap, ℕ, suc, ◌*◌, ◌<◌, ◌^◌, true, [], ◌∷◌, List, replicate, nat_le, ltb-true, le-leb, arith}
use Rattle.vb6_run.specs.Values as source
use Rattle.vb6_run.specs.Values.{Dimension, is_small}
use Rattle.net_run.specs.Store as net
use Rattle.run_matches.specs.Likeness.{counts_of}

pub products : (dims : List Dimension) → net.product (counts_of dims) ≡ source.product dims
products [] = refl
products (d ∷ dims) = ap (λ z. d.count * z) (products dims)

pub none_erased : (rank : ℕ) → net.product (replicate (suc rank) 0) ≡ 0
none_erased rank = omega arith

pub small_enough : (k : ℕ) → is_small k ≡ true → nat_le k net.most_elements ≡ true
small_enough k e = let lt : k < 2 ^ 31 = ltb-true k (2 ^ 31) e in le-leb k 2147483647 (omega (arith, lt))
