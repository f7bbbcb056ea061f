-- The rules of both sets, in any grouping.
use Rattle.std.proofs.Common.{◌≡◌, ◌<◌, ◌≤◌, ◌+◌, ℕ, List, [], ◌∷◌, length, get_or, drop, sym, ap, ◌∙◌, arith}
use Rattle.std.specs.Prelude.{bit_or}
use Rattle.std.specs.Int.{bit_at}
use Rattle.std.specs.Int.Bits.{or_zero_l, or_zero_r}
use Rattle.std.proofs.lemmas.List.{drop_all, drop_more}
use Rattle.std.proofs.lemmas.Nat.Bits.{bit_at_or, same_from_bits}
use Rattle.bound_tree.specs.declared.rule_set.RuleSet.{RuleSet}
use Rattle.bound_tree.specs.RuleSets.{none, both}

or_assoc : (a b c : ℕ) → bit_or (bit_or a b) c ≡ bit_or a (bit_or b c)
or_assoc a b c = same_from_bits (bit_or (bit_or a b) c) (bit_or a (bit_or b c)) (λ i. same i)
  where
    same : (i : ℕ) → bit_at (bit_or (bit_or a b) c) i ≡ bit_at (bit_or a (bit_or b c)) i
    same i = rw (bit_at_or (bit_or a b) c i, bit_at_or a b i, bit_at_or a (bit_or b c) i, bit_at_or b c i) (omega arith)

pub both_assoc : (a b c : RuleSet) → both (both a b) c ≡ both a (both b c)
unfolding both
both_assoc a b c = ap (λ (n : ℕ). record { bits = n }) (or_assoc a.bits b.bits c.bits)

pub none_first : (s : RuleSet) → both none s ≡ s
unfolding both none
none_first s = ap (λ (n : ℕ). record { bits = n }) (or_zero_l s.bits)

pub none_last : (s : RuleSet) → both s none ≡ s
unfolding both none
none_last s = ap (λ (n : ℕ). record { bits = n }) (or_zero_r s.bits)

-- the union of the sets of a list, set by set: `f` of the rest of the list is what is still to come
pub rules_step : {X : Type 0} (f : List X → RuleSet) (g : X → RuleSet) → ((x : X) (xs : List X) → f (x ∷ xs) ≡ both (g x) (f xs))
    → (xs : List X) (i : ℕ) (x : X) (old new s whole : RuleSet) → i < length xs → x ≡ get_or xs i x → new ≡ both old s → s ≡ g x
    → both old (f (drop i xs)) ≡ whole → both new (f (drop (i + 1) xs)) ≡ whole
rules_step {X} f g law xs i x old new s whole h is e there so_far =
    ap (λ k. both k (f (drop (i + 1) xs))) (e ∙ ap (both old) there) ∙ both_assoc old (g x) (f (drop (i + 1) xs))
    ∙ ap (both old) (sym (law x (drop (i + 1) xs)) ∙ ap f (sym front)) ∙ so_far
  where
    front : drop i xs ≡ x ∷ drop (i + 1) xs
    front = drop_more xs i x h ∙ ap (λ (y : X). y ∷ drop (i + 1) xs) (sym is)

pub rules_end : {X : Type 0} (f : List X → RuleSet) → f [] ≡ none → (xs : List X) (i : ℕ) (rules whole : RuleSet) → length xs ≤ i
    → both rules (f (drop i xs)) ≡ whole → rules ≡ whole
rules_end f law xs i rules whole h so_far = sym (none_last rules) ∙ ap (both rules) (sym law ∙ ap f (sym (drop_all i xs h))) ∙ so_far
