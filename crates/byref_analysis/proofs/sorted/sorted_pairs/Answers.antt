use Rattle.std.proofs.lemmas.List.Filters.{dedup_is}
use Rattle.std.proofs.lemmas.List.Kept.{Contains-dedup, Contains-from_dedup}
use Rattle.std.proofs.lemmas.List.Sorted.{Contains-permutation, IsPermutation-sym}
use Rattle.reach_table.proofs.Order.{pair_eq, pair_eq_equiv, same_from_pair_eq, AllPairs-from_dedup}
use Rattle.byref_analysis.proofs.sorted.sorted_pairs.Goals as goal

pub returns-clause-sorted : goal.returns-clause-sorted
returns-clause-sorted c =
    rw (dedup_is pair_eq _ _ c.dedup.ensures.filtered) (AllPairs-from_dedup _ c.sort_unstable.ensures.sorted)

pub returns-clause-pairs : goal.returns-clause-pairs
returns-clause-pairs c p =
    let is = dedup_is pair_eq _ _ c.dedup.ensures.filtered in
    let moved = c.sort_unstable.ensures.permutation in (
      λ h. rw c.in_ok-sorted.ensures.items at (Contains-permutation _ _ p (IsPermutation-sym _ _ moved) (Contains-from_dedup pair_eq _ p (rw is at h))),
      λ h. rw is (Contains-dedup pair_eq_equiv same_from_pair_eq _ p (Contains-permutation _ _ p moved (rw (← c.in_ok-sorted.ensures.items) at h))),
    )
