-- Sets of rules.
use Rattle.std.specs.Prelude.{ℕ, ◌^◌, Bool, cond, nat_eq, List, [], ◌∷◌, Option, Some, None, is_some, bit_or}
use Rattle.std.specs.Int.{bit_at}
use Rattle.bound_tree.specs.declared.rule_set.RuleSet.{RuleSet}

-- whether a rule is in the set
unfoldable pub has : RuleSet → ℕ → Bool
has s n = nat_eq (bit_at s.bits n) 1

unfoldable pub none : RuleSet
none = record { bits = 0 }

unfoldable pub with_rule : RuleSet → ℕ → RuleSet
with_rule s n = record { bits = bit_or s.bits (2 ^ n) }

abbrev pub with_if : RuleSet → ℕ → Bool → RuleSet
with_if s n test = cond test (with_rule s n) s

unfoldable pub both : RuleSet → RuleSet → RuleSet
both a b = record { bits = bit_or a.bits b.bits }

-- the first of the numbers that passes
abbrev pub first : (ℕ → Bool) → List ℕ → Option ℕ
first p [] = None
first p (n ∷ ns) = cond (p n) (Some n) (first p ns)

-- the rules that sets are of
abbrev pub rule_numbers : List ℕ
rule_numbers = 1 ∷ 2 ∷ 3 ∷ 4 ∷ 5 ∷ 6 ∷ 7 ∷ 8 ∷ 9 ∷ 10 ∷ 11 ∷ 12 ∷ 13 ∷ 14 ∷ 15 ∷ 16 ∷ 17 ∷ 18 ∷ 19 ∷ 20 ∷ 21 ∷ 22 ∷ 23 ∷ 24 ∷ 25 ∷ 26 ∷ []

-- whether a set has a rule at all
abbrev pub is_broken : RuleSet → Bool
is_broken s = is_some (first (has s) rule_numbers)
