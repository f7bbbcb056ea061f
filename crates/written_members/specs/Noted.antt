-- What a table has for a statement.
use Rattle.std.specs.Prelude.{ℕ, Bool, nat_eq, ◌&&◌, List, [], Option, Some, None, Vec}
use Rattle.std.specs.HashMap.{HashMap, get}
use Rattle.std.proofs.Common.{Global}

abbrev pub is_same_pair : ℕ × ℕ → ℕ × ℕ → Bool
is_same_pair x y = nat_eq x.0 y.0 && nat_eq x.1 y.1

abbrev pub items_in : {X : Type 0} → Option (Vec X Global) → List X
items_in None = []
items_in (Some v) = v.items

-- the list for a statement, which is empty where there is none
abbrev pub noted : {X S : Type 0} → HashMap (ℕ × ℕ) (Vec X Global) S → (file number : ℕ) → List X
noted m file n = items_in (get is_same_pair m (file, n))
