-- Issues in their order.
use Rattle.std.proofs.Common.{◌≡◌, ℕ, zero, suc, ◌-◌, Bool, true, false, cond, ◌&&◌, ◌||◌, nat_lt, nat_eq, List, [], ◌∷◌, ◌++◌, length, slice_get, Option, Some, refl, ap, arith}
use Rattle.std.proofs.lemmas.Bool.{and_parts, and_from}
use Rattle.std.specs.declared.cmp.Ordering.{Ordering}
use Rattle.std.specs.declared.cmp.Ordering.TheVariants.{Less, Equal, Greater}
use Rattle.std.specs.Ordering.{is_lt, is_some_and, partial_lt, partial_ordering_then}
use Rattle.up_base.specs.Issues.{issue_before, are_ascending, is_last_before}
use Rattle.up_base.specs.declared.issue.Issue.{Issue}
use Rattle.up_base.specs.contracts.issue.IssuePartialOrd.TheImpl.{partial_cmp-value}

-- issues stay in order where one that comes after the last is appended
pub are_ascending_push : (issues : List Issue) (item : Issue) → are_ascending issues ≡ true → is_last_before issues item ≡ true → are_ascending (issues ++ item ∷ []) ≡ true
are_ascending_push [] item h after = refl
are_ascending_push (a ∷ []) item h after = and_from (issue_before a item) true after refl
are_ascending_push (a ∷ b ∷ issues) item h after =
    let parts = and_parts (issue_before a b) (are_ascending (b ∷ issues)) h in
    and_from (issue_before a b) _ parts.0 (are_ascending_push (b ∷ issues) item parts.1 after)

-- the last issue decides
pub is_last_before_at : (issues : List Issue) (i : ℕ) (last item : Issue) → i ≡ length issues - 1 → slice_get issues i ≡ Some last → is_last_before issues item ≡ issue_before last item
is_last_before_at [] i last item size h = cc
is_last_before_at (a ∷ []) zero last item size h = let e : a ≡ last = cc in ap (λ (x : Issue). issue_before x item) e
is_last_before_at (a ∷ []) (suc i) last item size h = absurd (omega arith)
is_last_before_at (a ∷ b ∷ issues) zero last item size h = absurd (omega arith)
is_last_before_at (a ∷ b ∷ issues) (suc i) last item size h = is_last_before_at (b ∷ issues) i last item (omega arith) h

-- how two numbers compare, by whether the first is less and whether they are equal
abbrev ranked : Bool → Bool → Option Ordering
ranked less equal = Some (cond less Less (cond equal Equal Greater))

-- three comparisons one after the other, and one test
tests_less : (f e l k r s : Bool) → is_some_and is_lt (partial_ordering_then (partial_ordering_then (ranked f e) (ranked l k)) (ranked r s)) ≡ (f || (e && (l || (k && r))))
tests_less true e l k r s = refl
tests_less false false l k r s = refl
tests_less false true true k r s = refl
tests_less false true false false r s = refl
tests_less false true false true true s = refl
tests_less false true false true false true = refl
tests_less false true false true false false = refl

-- `<` of issues is their order
pub partial_lt_issue : (a b : Issue) → partial_lt partial_cmp-value.it a b ≡ issue_before a b
partial_lt_issue a b = tests_less (nat_lt a.place.file b.place.file) (nat_eq a.place.file b.place.file) (nat_lt a.place.line b.place.line) (nat_eq a.place.line b.place.line) (nat_lt a.rule b.rule) (nat_eq a.rule b.rule)
