use Rattle.std.proofs.lemmas.List.Filters.{dedup_is}
use Rattle.std.proofs.lemmas.List.Kept.{Contains-dedup, Contains-from_dedup, IsStrictlySortedBy-dedup}
use Rattle.std.proofs.lemmas.List.Sorted.{Contains-permutation, IsPermutation-sym}
use Rattle.issue_sets.proofs.Ordered.{sorted_ascend, equal_ties, equal_is_same, same_issues, issue_order}
use Rattle.issue_sets.proofs.issues.as_set.Goals as goal

pub from_vec-requires : goal.from_vec-requires
from_vec-requires c =
    rw (dedup_is _ _ _ c.dedup.ensures.filtered) (sorted_ascend _ (IsStrictlySortedBy-dedup issue_order equal_ties _ c.sort_unstable.ensures.sorted))

pub returns : goal.returns
returns c =
    let is = dedup_is _ _ _ c.dedup.ensures.filtered in
    let moved = c.sort_unstable.ensures.permutation in
    rw c.from_vec.ensures
    record {
      ascending = rw is (sorted_ascend _ (IsStrictlySortedBy-dedup issue_order equal_ties _ c.sort_unstable.ensures.sorted));
      same = λ x. (
        (λ h. Contains-permutation _ _ x (IsPermutation-sym _ _ moved) (Contains-from_dedup _ _ x (rw is at h))),
        (λ h. rw is (Contains-dedup same_issues equal_is_same _ x (Contains-permutation _ _ x moved h))),
      );
    }
