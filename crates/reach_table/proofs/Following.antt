-- Following the pairs of the reached nodes one after the other.
use Rattle.std.proofs.Common.{◌≡◌, ℕ, ◌+◌, ◌-◌, ◌<◌, ◌≤◌, Bool, true, false, cond, List, [], ◌∷◌, ◌++◌, Some, length, get_or, take, drop, refl, sym, ◌∙◌, ap, subst, arith, eqb, inl, inr, below_more}
use Rattle.std.specs.Prelude.{◌||◌, slice_get}
use Rattle.std.specs.List.{All, Contains, IsDistinct, count_by, sum_by}
use Rattle.std.proofs.lemmas.Bool.{cases_lt, cond_both, eqb-true}
use Rattle.std.proofs.lemmas.List.{get_or_append_left, get_or-append_right, get_or-drop, get_or_default, length-append, length-drop, take-append-le}
use Rattle.std.proofs.lemmas.List.Elements.{All-from_recursion, All-get_or}
use Rattle.std.proofs.lemmas.List.Folds.{list_any_none}
use Rattle.std.proofs.lemmas.List.Sums.{count_by-le-length, sum_by-cons, sum_by_more}
use Rattle.std.proofs.lemmas.Map.Keys.{IsDistinct-head, IsDistinct-tail}
use Rattle.std.proofs.lemmas.Map.Steps.{length-le_from_distinct_below}
use Rattle.std.proofs.lemmas.Option.{get_or_from_slice_get}
use Rattle.reach_table.specs.Table.{IsRun, begins_at}
use Rattle.reach_table.specs.Chains.{empty, longer}
use Rattle.reach_table.specs.Worklists.{FollowedTo, GrowsBy, HasNext, IsReached, IsReachedFrom, Reached, has, out_degree, total_degree, with_node}
use Rattle.reach_table.proofs.Runs.{count_by-between}
use Rattle.reach_table.proofs.Nodes.{GrowsBy-then, has-get_or, has_kept, has_with-itself, has_with-kept, place_of}
use Rattle.reach_table.proofs.Order.{same_pairs}

-- a pair that was read within the run of a node begins at the node
pub Contains-at : (pairs : List (ℕ × ℕ)) (node first number k : ℕ) (p : ℕ × ℕ) → IsRun pairs node first number → first ≤ k → k < first + number → slice_get pairs k ≡ Some p → Contains pairs (node, p.1)
Contains-at pairs node first number k p run low high is =
    let within : k < length pairs = omega (arith, run.within) in
    let read = get_or_from_slice_get pairs k p (node, p.1) is in
    let begins = (run.places k (node, p.1) within).1 (low, high) in
    (k, within, read ∙ same_pairs p.0 p.1 node p.1 (sym (ap (λ (q : ℕ × ℕ). q.0) read) ∙ begins) refl)

-- the nodes that the pairs at these places lead to are among the nodes
abbrev pub ReachesFrom : List (ℕ × ℕ) → List ℕ → ℕ → ℕ → Type 0
ReachesFrom pairs nodes first k = (j : ℕ) → first ≤ j → j < k → has nodes (get_or pairs j (0, 0)).1 ≡ true

pub ReachesFrom-more : (pairs : List (ℕ × ℕ)) (list new : Reached) (first k : ℕ) (p : ℕ × ℕ) → slice_get pairs k ≡ Some p → new ≡ record list { nodes = with_node list.nodes p.1 } → ReachesFrom pairs list.nodes first k → ReachesFrom pairs new.nodes first (k + 1)
ReachesFrom-more pairs list new first k p read is so_far j low high =
    let nodes = ap (λ (r : Reached). r.nodes) is in
    below_more (λ j. first ≤ j → has new.nodes (get_or pairs j (0, 0)).1 ≡ true) k
    (λ j h l. rw nodes (has_with-kept list.nodes p.1 (get_or pairs j (0, 0)).1 (so_far j l h)))
    (λ l. rw (nodes, get_or_from_slice_get pairs k p (0, 0) read) (has_with-itself list.nodes p.1)) j high low

pub HasNext-from_run : (pairs : List (ℕ × ℕ)) (nodes : List ℕ) (node first number k : ℕ) → IsRun pairs node first number → first + number ≤ k → ReachesFrom pairs nodes first k → HasNext pairs nodes node
HasNext-from_run pairs nodes node first number k run whole reached next pair =
    let at = pair.0 in
    let here = (run.places at (node, next) pair.1).0 (ap (λ (q : ℕ × ℕ). q.0) pair.2) in
    let read = get_or_default pairs at (0, 0) (node, next) pair.1 ∙ pair.2 in
    let known = reached at here.0 (omega (arith, here.1)) in
    rw read at known

-- the node at a place from `from` on was reached by a chain from those that stood there first
IsReachedFrom-at : (pairs : List (ℕ × ℕ)) (old list : Reached) (from place : ℕ) → from ≤ length old.nodes → from ≤ place → place < length list.nodes → GrowsBy (IsReachedFrom pairs (drop from old.nodes)) old list → IsReachedFrom pairs (drop from old.nodes) (get_or list.nodes place 0)
IsReachedFrom-at pairs old list from place fits low within grown =
    let nodes = ap (λ (r : Reached). r.nodes) grown.1 in
    let len = ap (λ (ns : List ℕ). length ns) nodes ∙ length-append old.nodes grown.0 in
    elim (cases_lt place (length old.nodes)) [
      | inl h ↦
          let here : place - from < length (drop from old.nodes) = omega (arith, length-drop from old.nodes) in
          let at : from + (place - from) ≡ place = omega arith in
          let is : get_or (drop from old.nodes) (place - from) 0 ≡ get_or list.nodes place 0 =
          get_or-drop from old.nodes (place - from) 0 ∙ ap (λ (k : ℕ). get_or old.nodes k 0) at ∙ sym (ap (λ (ns : List ℕ). get_or ns place 0) nodes ∙ get_or_append_left old.nodes grown.0 0 place h) in
          (get_or list.nodes place 0, subst (λ (n : ℕ). has (drop from old.nodes) n ≡ true) is (has-get_or (drop from old.nodes) (place - from) here), empty _)
      | inr h ↦
          let is : get_or list.nodes place 0 ≡ get_or grown.0 (place - length old.nodes) 0 =
          ap (λ (ns : List ℕ). get_or ns place 0) nodes ∙ get_or-append_right old.nodes grown.0 (length old.nodes) place 0 refl h in
          subst (IsReachedFrom pairs (drop from old.nodes)) (sym is) (grown.2 (place - length old.nodes) 0 (omega (arith, len)))
    ]

IsReachedFrom-next : (pairs : List (ℕ × ℕ)) (nodes : List ℕ) (node next : ℕ) → IsReachedFrom pairs nodes node → Contains pairs (node, next) → IsReachedFrom pairs nodes next
IsReachedFrom-next pairs nodes node next reached pair = (reached.0, reached.1, longer reached.0 node next reached.2 pair)

-- the node at a place was followed
pub GrowsBy-follow : (pairs : List (ℕ × ℕ)) (old list new : Reached) (from place node : ℕ) → from ≤ length old.nodes → from ≤ place → place < length list.nodes → node ≡ get_or list.nodes place 0 → GrowsBy (IsReachedFrom pairs (drop from old.nodes)) old list → GrowsBy (λ next. Contains pairs (node, next)) list new → GrowsBy (IsReachedFrom pairs (drop from old.nodes)) old new
GrowsBy-follow pairs old list new from place node fits low within is first second =
    let start = drop from old.nodes in
    let reached : IsReachedFrom pairs start node = subst (IsReachedFrom pairs start) (sym is) (IsReachedFrom-at pairs old list from place fits low within first) in
    GrowsBy-then (IsReachedFrom pairs start) (λ next. Contains pairs (node, next)) old list new first second (λ n h. IsReachedFrom-next pairs start node n reached h)

-- what was followed stays so while the list grows
pub FollowedTo-append : (pairs : List (ℕ × ℕ)) (nodes more : List ℕ) (place : ℕ) → place ≤ length nodes → FollowedTo pairs nodes place → FollowedTo pairs (nodes ++ more) place
FollowedTo-append pairs nodes more place fits followed k below next pair =
    let same : get_or (nodes ++ more) k 0 ≡ get_or nodes k 0 = get_or_append_left nodes more 0 k (omega arith) in
    has_kept nodes more next (followed k below next (rw same at pair))

pub FollowedTo-with : (pairs : List (ℕ × ℕ)) (old new : Reached) (x from : ℕ) → from ≡ length old.nodes → new ≡ record old { nodes = with_node old.nodes x } → FollowedTo pairs old.nodes (length old.nodes) → FollowedTo pairs new.nodes from
FollowedTo-with pairs old new x from is_from is followed =
    let so_far : FollowedTo pairs old.nodes from = subst (FollowedTo pairs old.nodes) (sym is_from) followed in
    subst (λ (r : Reached). FollowedTo pairs r.nodes from) (sym is)
    (cond_both (has old.nodes x) old.nodes (old.nodes ++ x ∷ []) (λ (ns : List ℕ). FollowedTo pairs ns from) (λ _. so_far) (λ _. FollowedTo-append pairs old.nodes (x ∷ []) from (omega arith) so_far))

FollowedTo-more : (pairs : List (ℕ × ℕ)) (nodes : List ℕ) (place : ℕ) → FollowedTo pairs nodes place → HasNext pairs nodes (get_or nodes place 0) → FollowedTo pairs nodes (place + 1)
FollowedTo-more pairs nodes place followed here = below_more (λ k. HasNext pairs nodes (get_or nodes k 0)) place followed here

pub FollowedTo-follow : (pairs : List (ℕ × ℕ)) (P : ℕ → Type 0) (list new : Reached) (place node : ℕ) → place < length list.nodes → node ≡ get_or list.nodes place 0 → GrowsBy P list new → FollowedTo pairs list.nodes place → HasNext pairs new.nodes node → FollowedTo pairs new.nodes (place + 1)
FollowedTo-follow pairs P list new place node within is grown so_far here =
    let nodes = ap (λ (r : Reached). r.nodes) grown.1 in
    let same : node ≡ get_or new.nodes place 0 = is ∙ sym (ap (λ (ns : List ℕ). get_or ns place 0) nodes ∙ get_or_append_left list.nodes grown.0 0 place within) in
    FollowedTo-more pairs new.nodes place
    (subst (λ (ns : List ℕ). FollowedTo pairs ns place) (sym nodes) (FollowedTo-append pairs list.nodes grown.0 place (omega arith) so_far))
    (subst (HasNext pairs new.nodes) same here)

pub sum_by-follow : (f : ℕ → ℕ) (P : ℕ → Type 0) (list new : Reached) (place node : ℕ) → place < length list.nodes → node ≡ get_or list.nodes place 0 → GrowsBy P list new → sum_by f (take (place + 1) new.nodes) ≡ sum_by f (take place list.nodes) + f node
sum_by-follow f P list new place node within is grown =
    let all = list.nodes ++ grown.0 in
    let longer : place < length all = omega (arith, length-append list.nodes grown.0) in
    ap (λ (r : Reached). sum_by f (take (place + 1) r.nodes)) grown.1 ∙ sum_by_more f all place 0 longer
    ∙ ap (λ (ns : List ℕ). sum_by f ns + f (get_or all place 0)) (take-append-le place list.nodes grown.0 (omega arith))
    ∙ ap (λ (n : ℕ). sum_by f (take place list.nodes) + f n) (get_or_append_left list.nodes grown.0 0 place within ∙ sym is)

pub length_grows : (P : ℕ → Type 0) (list new : Reached) → GrowsBy P list new → (length list.nodes ≤ length new.nodes) × (new.limit ≡ list.limit)
length_grows P list new grown =
    (omega (arith, ap (λ (r : Reached). length r.nodes) grown.1, length-append list.nodes grown.0), ap (λ (r : Reached). r.limit) grown.1)

pub limit_grows : (P : ℕ → Type 0) (old list new : Reached) (x : ℕ) → list ≡ record old { nodes = with_node old.nodes x } → GrowsBy P list new → new.limit ≡ old.limit
limit_grows P old list new x is grown = ap (λ (r : Reached). r.limit) grown.1 ∙ ap (λ (r : Reached). r.limit) is

one_of : (a b : Bool) → (a ≡ true → b ≡ false) → cond a 1 0 + cond b 1 0 ≡ cond (a || b) 1 0
one_of true true h = absurd (let e = h refl in cc)
one_of true false h = refl
one_of false true h = refl
one_of false false h = refl

count_by-or : {X : Type 0} (q r : X → Bool) → ((x : X) → q x ≡ true → r x ≡ false) → (xs : List X) → count_by q xs + count_by r xs ≡ count_by (λ x. q x || r x) xs
count_by-or q r apart [] = refl
count_by-or q r apart (x ∷ xs) =
    omega (arith, sum_by-cons (λ y. cond (q y) 1 0) x xs, sum_by-cons (λ y. cond (r y) 1 0) x xs, sum_by-cons (λ y. cond (q y || r y) 1 0) x xs, one_of (q x) (r x) (apart x), count_by-or q r apart xs)

has-head : (x n : ℕ) (xs : List ℕ) → IsDistinct eqb (x ∷ xs) → eqb n x ≡ true → has xs n ≡ false
has-head x n xs distinct is =
    let others = All-from_recursion (λ y. eqb x y ≡ false) xs (IsDistinct-head eqb x xs distinct) in
    list_any_none (eqb n) xs (subst (λ (m : ℕ). All (λ y. eqb m y ≡ false) xs) (sym (eqb-true n x is)) others)

-- no pair begins at two nodes
total_degree-from_distinct : (pairs : List (ℕ × ℕ)) (nodes : List ℕ) → IsDistinct eqb nodes → total_degree pairs nodes ≡ count_by (λ (p : ℕ × ℕ). has nodes p.0) pairs
total_degree-from_distinct pairs [] distinct =
    sym (count_by-between (λ (p : ℕ × ℕ). has [] p.0) pairs 0 0 (omega arith) (omega arith) (λ k d h. absurd (omega arith)) (λ k d h l. absurd (omega arith)) (λ k d h l. refl))
total_degree-from_distinct pairs (x ∷ xs) distinct =
    sum_by-cons (out_degree pairs) x xs ∙ ap (λ n. out_degree pairs x + n) (total_degree-from_distinct pairs xs (IsDistinct-tail eqb x xs distinct))
    ∙ count_by-or (begins_at x) (λ p. has xs p.0) (λ p h. has-head x p.0 xs distinct h) pairs

pub total_degree-le-length : (pairs : List (ℕ × ℕ)) (nodes : List ℕ) → IsDistinct eqb nodes → total_degree pairs nodes ≤ length pairs
total_degree-le-length pairs nodes distinct = rw (total_degree-from_distinct pairs nodes distinct) (count_by-le-length (λ (p : ℕ × ℕ). has nodes p.0) pairs)

-- there are no more reached nodes than nodes
pub length-le_from_IsReached : (reached : Reached) → IsReached reached → length reached.nodes ≤ reached.limit
length-le_from_IsReached reached list =
    length-le_from_distinct_below reached.nodes reached.limit list.distinct
    (λ q h. let at = place_of reached.nodes q h in subst (λ (n : ℕ). n < reached.limit) at.2 (All-get_or (λ n. n < reached.limit) reached.nodes at.0 0 at.1 list.below))
