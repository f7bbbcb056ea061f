-- The pairs that begin at a node: how many they are, from where those of smaller nodes end.
use Rattle.std.proofs.Common.{◌≡◌, ℕ, zero, suc, ◌+◌, ◌-◌, ◌<◌, ◌≤◌, Bool, true, false, cond, List, [], ◌∷◌, ◌++◌, length, get_or, sym, ◌∙◌, ap, subst, arith, ltb, inl, inr, below_more}
use Rattle.std.specs.List.{count_by, AllPairs, All, Contains}
use Rattle.std.specs.List.Sorted.{IsPartitionedBy, IsPartitionPoint}
use Rattle.std.proofs.lemmas.Bool.{cases_eq, cases_lt, eq-eqb, ne_eqb, ltb-true, ltb-false, lt-ltb}
use Rattle.std.proofs.lemmas.List.{get_or_append_left, get_or_push, get_or_read, length_push}
use Rattle.std.proofs.lemmas.List.Elements.{All-contains, Contains-get_or}
use Rattle.std.proofs.lemmas.List.Sums.{sum_by-cons}
use Rattle.reach_table.specs.Table.{AreStarts, IsBefore, IsStart, begins_at}

-- the test is true from the place a on and below the place b
pub count_by-between : {X : Type 0} (q : X → Bool) (xs : List X) (a b : ℕ) → a ≤ b → b ≤ length xs → ((k : ℕ) (d : X) → k < a → q (get_or xs k d) ≡ false) → ((k : ℕ) (d : X) → a ≤ k → k < b → q (get_or xs k d) ≡ true) → ((k : ℕ) (d : X) → b ≤ k → k < length xs → q (get_or xs k d) ≡ false) → count_by q xs ≡ b - a
count_by-between q [] a b order within before inside behind = omega arith
count_by-between q (x ∷ xs) zero zero order within before inside behind =
    let no = behind 0 x (omega arith) (omega arith) in
    let rest = count_by-between q xs zero zero (omega arith) (omega arith) (λ k d h. absurd (omega arith)) (λ k d h l. absurd (omega arith)) (λ k d h l. behind (suc k) d (omega arith) (omega arith)) in
    omega (arith, sum_by-cons (λ y. cond (q y) 1 0) x xs, ap {B = ℕ} (λ b. cond b 1 0) no, rest)
count_by-between q (x ∷ xs) zero (suc b) order within before inside behind =
    let yes = inside 0 x (omega arith) (omega arith) in
    let rest = count_by-between q xs zero b (omega arith) (omega arith) (λ k d h. absurd (omega arith)) (λ k d h l. inside (suc k) d (omega arith) (omega arith)) (λ k d h l. behind (suc k) d (omega arith) (omega arith)) in
    omega (arith, sum_by-cons (λ y. cond (q y) 1 0) x xs, ap {B = ℕ} (λ b. cond b 1 0) yes, rest)
count_by-between q (x ∷ xs) (suc a) zero order within before inside behind = absurd (omega arith)
count_by-between q (x ∷ xs) (suc a) (suc b) order within before inside behind =
    let no = before 0 x (omega arith) in
    let rest = count_by-between q xs a b (omega arith) (omega arith) (λ k d h. before (suc k) d (omega arith)) (λ k d h l. inside (suc k) d (omega arith) (omega arith)) (λ k d h l. behind (suc k) d (omega arith) (omega arith)) in
    omega (arith, sum_by-cons (λ y. cond (q y) 1 0) x xs, ap {B = ℕ} (λ b. cond b 1 0) no, rest)

pub count_by-from_starts : (pairs : List (ℕ × ℕ)) (node first next : ℕ) → IsStart pairs node first → IsStart pairs (node + 1) next → count_by (begins_at node) pairs ≡ next - first
count_by-from_starts pairs node first next start end =
    let order : first ≤ next =
    elim (cases_lt next first) [
      | inl less ↦
          let below = start.before next (0, 0) less in
          let above = end.behind next (0, 0) (omega arith) (omega (arith, start.within)) in
          absurd (omega (arith, below, above))
      | inr h ↦ h
    ] in
    count_by-between (begins_at node) pairs first next order end.within
    (λ k d h. let below = start.before k d h in ne_eqb (get_or pairs k d).0 node (λ e. omega (arith, below, e)))
    (λ k d h l. let above = start.behind k d h (omega (arith, end.within)) in let below = end.before k d l in eq-eqb (get_or pairs k d).0 node (omega (arith, above, below)))
    (λ k d h l. let above = end.behind k d h l in ne_eqb (get_or pairs k d).0 node (λ e. omega (arith, above, e)))

-- from the starts as the code reads them
pub count_by-from_index : (nodes : ℕ) (pairs : List (ℕ × ℕ)) (starts : List ℕ) (node first next : ℕ) → AreStarts nodes pairs starts → node < nodes → first ≡ get_or starts node first → next ≡ get_or starts (node + 1) next → count_by (begins_at node) pairs ≡ next - first
count_by-from_index nodes pairs starts node first next index below is_first is_next =
    let at_first : first ≡ get_or starts node 0 = get_or_read starts node first (omega (arith, index.len)) is_first 0 in
    let at_next : next ≡ get_or starts (node + 1) 0 = get_or_read starts (node + 1) next (omega (arith, index.len)) is_next 0 in
    count_by-from_starts pairs node first next
    (subst (IsStart pairs node) (sym at_first) (index.each node (omega arith)))
    (subst (IsStart pairs (node + 1)) (sym at_next) (index.each (node + 1) (omega arith)))

-- the pairs in order: those that begin below a node stand before the others
pub IsPartitionedBy-from_sorted : (pairs : List (ℕ × ℕ)) (node : ℕ) → AllPairs IsBefore pairs → IsPartitionedBy (λ p. ltb p.0 node) pairs
IsPartitionedBy-from_sorted pairs node sorted i j d order within below =
    elim (cases_eq i j) [
      | inl same ↦ subst (λ k. ltb (get_or pairs k d).0 node ≡ true) (sym same) below
      | inr other ↦
          let less = ltb-true (get_or pairs j d).0 node below in
          let first_rises : (get_or pairs i d).0 ≤ (get_or pairs j d).0 = elim (sorted i j d (omega arith) within) [ inl h ↦ omega arith | inr h ↦ omega arith ] in
          lt-ltb (get_or pairs i d).0 node (omega (arith, less, first_rises))
    ]

pub IsStart-from_point : (pairs : List (ℕ × ℕ)) (node start : ℕ) → start ≤ length pairs → IsPartitionPoint (λ p. ltb p.0 node ≡ true) (λ p. ltb p.0 node ≡ false) pairs start → IsStart pairs node start
IsStart-from_point pairs node start within point = record {
  within = within;
  before = λ k d h. ltb-true (get_or pairs k d).0 node (point.0 k d (omega arith) h);
  behind = λ k d h l. ltb-false (get_or pairs k d).0 node (point.1 k d h l);
}

pub starts-more : (pairs : List (ℕ × ℕ)) (starts : List ℕ) (node start : ℕ) → length starts ≡ node → ((n : ℕ) → n < node → IsStart pairs n (get_or starts n 0)) → IsStart pairs node start → (length (starts ++ start ∷ []) ≡ node + 1) × ((n : ℕ) → n < node + 1 → IsStart pairs n (get_or (starts ++ start ∷ []) n 0))
starts-more pairs starts node start len each this = (
  length_push starts start ∙ ap (λ n. n + 1) len,
  below_more (λ n. IsStart pairs n (get_or (starts ++ start ∷ []) n 0)) node
      (λ n h. subst (IsStart pairs n) (sym (get_or_append_left starts (start ∷ []) 0 n (omega arith))) (each n h))
      (subst (IsStart pairs node) (sym (get_or_push starts start 0 node len)) this),
)

-- pairs with the same elements as those of a table are in the table's range
pub All-from_Contains : (P : ℕ × ℕ → Type 0) (xs ys : List (ℕ × ℕ)) → ((p : ℕ × ℕ) → Contains ys p → Contains xs p) → All P xs → All P ys
All-from_Contains P xs ys from all k d within = All-contains P xs (get_or ys k d) all (from (get_or ys k d) (Contains-get_or ys k d within))
