-- The rules, listed one after the other.
use Rattle.std.proofs.Common.{◌≡◌, inl, inr, ℕ, zero, suc, ◌+◌, ◌<◌, ◌≤◌, Bool, true, false, ◌&&◌, ◌==◌, List, [], ◌∷◌, ◌++◌, map, length, append-nil, append_assoc, refl, sym, ap, ◌∙◌, subst, arith}
use Rattle.std.specs.Prelude.{nat_le}
use Rattle.std.specs.List.{flat_map, range_with_len}
use Rattle.std.proofs.lemmas.Bool.{and_parts, cases_Bool, eqb-true}
use Rattle.std.proofs.lemmas.Bool.Decides.{nat_tests}
use Rattle.std.proofs.lemmas.Grind.{flat_map-append}
use Rattle.std.proofs.lemmas.List.FromFn.{map-range_with_len_more}
use Rattle.issue_report.specs.Reports.{numbered_rule}
use Rattle.wizard_cli.specs.Answers.{further_rules, rule_lines}

-- the first rule, and so many more
abbrev pub rules_to : ℕ → List ℕ
rules_to k = numbered_rule 1 ++ further_rules k

one_further : (k : ℕ) → further_rules (k + 1) ≡ further_rules k ++ 10 ∷ numbered_rule (k + 2)
one_further k =
    ap (flat_map (λ text. 10 ∷ text)) (map-range_with_len_more numbered_rule 2 k (k + 2) (omega arith))
    ∙ flat_map-append (λ text. 10 ∷ text) (map numbered_rule (range_with_len 2 k)) (numbered_rule (k + 2) ∷ [])
    ∙ ap (λ xs. further_rules k ++ xs) (append-nil (10 ∷ numbered_rule (k + 2)))

-- one more rule behind a line feed
pub one_more_rule : (k : ℕ) (before fed after : List ℕ) → before ≡ rules_to k → fed ≡ before ++ 10 ∷ [] → after ≡ fed ++ numbered_rule (k + 2) → after ≡ rules_to (k + 1)
one_more_rule k before fed after p q r =
    r ∙ ap (λ xs. xs ++ numbered_rule (k + 2)) (q ∙ ap (λ xs. xs ++ 10 ∷ []) p)
    ∙ append_assoc (rules_to k) (10 ∷ []) (numbered_rule (k + 2))
    ∙ append_assoc (numbered_rule 1) (further_rules k) (10 ∷ numbered_rule (k + 2))
    ∙ ap (λ xs. numbered_rule 1 ++ xs) (sym (one_further k))

-- ---- room

-- whether a test passes at each number below one
abbrev passes_below : (ℕ → Bool) → ℕ → Bool
passes_below p zero = true
passes_below p (suc n) = p n && passes_below p n

below_last : (k n : ℕ) → (k == n) ≡ false → k < suc n → k < n
below_last k n e within = grind (arith, nat_tests)

passes_at : (p : ℕ → Bool) (n k : ℕ) → passes_below p n ≡ true → k < n → p k ≡ true
passes_at p zero k h within = absurd (omega arith)
passes_at p (suc n) k h within = elim (cases_Bool (k == n)) [
  | inl same ↦ subst (λ x. p x ≡ true) (sym (eqb-true k n same)) (and_parts (p n) (passes_below p n) h).0
  | inr other ↦ passes_at p n k (and_parts (p n) (passes_below p n) h).1 (below_last k n other within)
]

abbrev has_room : ℕ → Bool
has_room k = nat_le (length (rules_to k) + (1 + length (numbered_rule (k + 2)))) 1023

at_most : (a b : ℕ) → nat_le a b ≡ true → a ≤ b
at_most a b h = grind (arith, nat_tests)

pub rules_room : (k : ℕ) → k < 25 → length (rules_to k) + (1 + length (numbered_rule (k + 2))) ≤ 1023
rules_room k within = at_most (length (rules_to k) + (1 + length (numbered_rule (k + 2)))) 1023 (passes_at has_room 25 k refl within)

pub rules_short : length rule_lines < 1024
rules_short = let most : suc (length rule_lines) ≤ 1024 = at_most (suc (length rule_lines)) 1024 refl in omega (arith, most)
