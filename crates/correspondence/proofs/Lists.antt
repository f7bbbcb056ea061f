-- Lists that stand for one another.
use Rattle.std.proofs.Common.{List, [], ◌∷◌, ◌++◌}
use Rattle.correspondence.specs.Lists.{Pairwise}

pub pairs_append : {A B : Type 0} (R : A → B → Type 0) (xs zs : List A) (ys ws : List B) → Pairwise R xs ys → Pairwise R zs ws → Pairwise R (xs ++ zs) (ys ++ ws)
pairs_append R [] zs [] ws h k = k
pairs_append R [] zs (y ∷ ys) ws h k = absurd h
pairs_append R (x ∷ xs) zs [] ws h k = absurd h
pairs_append R (x ∷ xs) zs (y ∷ ys) ws h k = (h.0, pairs_append R xs zs ys ws h.1 k)
