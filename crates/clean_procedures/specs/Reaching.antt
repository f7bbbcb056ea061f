-- Numbers from which chains of pairs lead to a number of a list.
use Rattle.std.specs.Prelude.{◌≡◌, ℕ, true, max, List, [], ◌∷◌}
use Rattle.reach_table.specs.Chains.{Chain}
use Rattle.bound_facts.specs.Leading.{is_in}

-- a chain, perhaps an empty one, leads from the number to one of the list
abbrev pub LeadTo : List (ℕ × ℕ) → List ℕ → ℕ → Type 0
LeadTo pairs list n = (to : ℕ) × (is_in list to ≡ true) × Chain pairs n to

-- the greatest number of pairs, and of a list; 0 where there is none
abbrev pub greatest_pair : List (ℕ × ℕ) → ℕ
greatest_pair [] = 0
greatest_pair (p ∷ ps) = max (max p.0 p.1) (greatest_pair ps)

abbrev pub greatest_number : List ℕ → ℕ
greatest_number [] = 0
greatest_number (n ∷ ns) = max n (greatest_number ns)
