-- Pairs in their order: what sorting them and leaving out repetitions gives.
use Rattle.std.proofs.Common.{◌≡◌, ℕ, Bool, true, List, Ordering, arith, eqb}
use Rattle.std.specs.Prelude.{◌&&◌}
use Rattle.std.specs.declared.cmp.Ordering.TheVariants.{Less}
use Rattle.std.specs.Cmp.{IsTotalOrder, IsEquivalence, on_equiv, and_equiv, on_total, then_total}
use Rattle.std.specs.List.{AllPairs, dedup}
use Rattle.std.specs.List.Sorted.{IsSorted}
use Rattle.std.specs.Ordering.{nat_cmp, ordering_then, eq_by_cmp}
use Rattle.std.proofs.lemmas.Bool.{and_parts, eqb-true}
use Rattle.std.proofs.lemmas.Bool.Decides.{nat_tests}
use Rattle.std.proofs.lemmas.Cmp.{nat_cmp_total, nat_eq_equiv}
use Rattle.std.proofs.lemmas.List.Kept.{IsStrictlySortedBy-dedup}
use Rattle.std.proofs.lemmas.Map.Keys.{Less-from_sorted}
use Rattle.reach_table.specs.Table.{IsBefore}

-- how std compares pairs of numbers
abbrev pub pair_cmp : ℕ × ℕ → ℕ × ℕ → Ordering
pair_cmp p q = ordering_then (nat_cmp p.0 q.0) (nat_cmp p.1 q.1)

abbrev pub pair_eq : ℕ × ℕ → ℕ × ℕ → Bool
pair_eq p q = eqb p.0 q.0 && eqb p.1 q.1

pub pair_cmp_total : IsTotalOrder pair_cmp
pair_cmp_total = then_total (on_total (λ p. p.0) nat_cmp_total) (on_total (λ p. p.1) nat_cmp_total)

pub pair_eq_equiv : IsEquivalence pair_eq
pair_eq_equiv = and_equiv (on_equiv (λ p. p.0) nat_eq_equiv) (on_equiv (λ p. p.1) nat_eq_equiv)

pub same_pairs : (a b c d : ℕ) → a ≡ c → b ≡ d → ◌≡◌ {A = ℕ × ℕ} (a, b) (c, d)
same_pairs a b c d e f = cc

pub same_from_pair_eq : (p q : ℕ × ℕ) → pair_eq p q ≡ true → p ≡ q
same_from_pair_eq p q h =
    let both = and_parts (eqb p.0 q.0) (eqb p.1 q.1) h in
    same_pairs p.0 p.1 q.0 q.1 (eqb-true p.0 q.0 both.0) (eqb-true p.1 q.1 both.1)

pub pair_eq-ties : (p q : ℕ × ℕ) → pair_eq p q ≡ eq_by_cmp pair_cmp p q
pair_eq-ties p q = grind (arith, nat_tests)

pub IsBefore-from_less : (p q : ℕ × ℕ) → pair_cmp p q ≡ Less → IsBefore p q
IsBefore-from_less p q h = grind (arith, nat_tests)

pub AllPairs-from_dedup : (xs : List (ℕ × ℕ)) → IsSorted pair_cmp xs → AllPairs IsBefore (dedup pair_eq xs)
AllPairs-from_dedup xs sorted i j d before within =
    IsBefore-from_less _ _ (Less-from_sorted pair_cmp _ i j d (IsStrictlySortedBy-dedup pair_cmp_total pair_eq-ties xs sorted) before within)
