-- The units of a text that are read one by one.
use Rattle.std.proofs.Common.{ℕ, List, ◌++◌, Option, Some}
use Rattle.net_exprs.specs.Readers.{behind}

abbrev pub with_units : List ℕ → Option (List ℕ × List ℕ) → Option (List ℕ × List ℕ)
with_units before o = behind o (λ units rest. Some (before ++ units, rest))
