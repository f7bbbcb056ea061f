-- Pairs in both directions, and the classes that they connect.
use Rattle.std.proofs.Common.{◌≡◌, ℕ, zero, suc, ◌<◌, ◌≤◌, Bool, true, false, cond, List, [], ◌∷◌, refl, ap, sym, subst, arith, nat_lt, ⊎_elim}
use Rattle.std.specs.List.{All, Contains}
use Rattle.std.proofs.lemmas.List.Elements.{All-cons, All-nil, All-contains, Contains-append_cases, Contains-append_left, Contains-append_right}
use Rattle.std.proofs.lemmas.Bool.{ltb-true}
use Rattle.reach_table.specs.Chains.{Chain, empty, longer, IsSymmetric, IsLeast}
use Rattle.reach_table.specs.Table.{IsBelow}
use Rattle.bound_facts.specs.Leading.{within, is_within, turned, two_ways, both_ways}
use Rattle.bound_facts.proofs.Chains.{both_true, Chain-turned, Chain-joined, Chain-among}

below_two : (n : ℕ) (p : ℕ × ℕ) (b : Bool) → is_within n p ≡ b → (ps : List (ℕ × ℕ)) → All (IsBelow n) (both_ways ps) → All (IsBelow n) (both_ways (cond b (p ∷ ps) ps))
below_two n p true e ps h =
    let both = both_true (nat_lt p.0 n) (nat_lt p.1 n) e in
    let first = ltb-true p.0 n both.0 in
    let second = ltb-true p.1 n both.1 in
    All-cons (IsBelow n) p (turned p ∷ both_ways ps) (first, second) (All-cons (IsBelow n) (turned p) (both_ways ps) (second, first) h)
below_two n p false e ps h = h

pub all_below_ways : (n : ℕ) (ps : List (ℕ × ℕ)) → All (IsBelow n) (both_ways (within n ps))
all_below_ways n [] = All-nil (IsBelow n)
all_below_ways n (p ∷ ps) = below_two n p (is_within n p) refl (within n ps) (all_below_ways n ps)

here : (p : ℕ × ℕ) (ps : List (ℕ × ℕ)) → Contains (p ∷ ps) p
here p ps = (0, omega arith, refl)

next : (p q : ℕ × ℕ) (ps : List (ℕ × ℕ)) → Contains ps q → Contains (p ∷ ps) q
next p q ps h = (suc h.0, (let l = h.1 in omega arith), h.2)

of_two : (a b : ℕ) (p : ℕ × ℕ) → Contains (two_ways p) (a, b) → Contains (two_ways p) (b, a)
of_two a b p (zero, l, e) = (1, omega arith, ap turned e)
of_two a b p (suc zero, l, e) = (0, omega arith, ap turned e)
of_two a b p (suc (suc k), l, e) = absurd (omega arith)

pub ways_turned : (ps : List (ℕ × ℕ)) → IsSymmetric (both_ways ps)
ways_turned [] a b h = absurd (omega (arith, h.1))
ways_turned (p ∷ ps) a b h =
    ⊎_elim (λ l. Contains-append_left (two_ways p) (both_ways ps) (b, a) (of_two a b p l)) (λ r. Contains-append_right (two_ways p) (both_ways ps) (b, a) (ways_turned ps a b r))
    (Contains-append_cases (two_ways p) (both_ways ps) (a, b) h)

-- the same members, so symmetric as well
pub symmetric_same : (ps qs : List (ℕ × ℕ)) → ((p : ℕ × ℕ) → (Contains qs p → Contains ps p) × (Contains ps p → Contains qs p)) → IsSymmetric ps → IsSymmetric qs
symmetric_same ps qs same h a b c = (same (b, a)).1 (h a b ((same (a, b)).0 c))

pub least_same : (ps : List (ℕ × ℕ)) → IsSymmetric ps → (a b m n : ℕ) → IsLeast (Chain ps a) m → IsLeast (Chain ps b) n → (m ≡ n → Chain ps a b) × (Chain ps a b → m ≡ n)
least_same ps symmetric a b m n least_a least_b = (
  (λ e. Chain-joined least_a.0 (Chain-turned symmetric (subst (λ k. Chain ps b k) (sym e) least_b.0))),
  (λ h.
      let l : m ≤ n = least_a.1 n (Chain-joined h least_b.0) in
      let r : n ≤ m = least_b.1 m (Chain-joined (Chain-turned symmetric h) least_a.0) in
      omega arith),
)

-- the classes over pairs with the same members
pub classes_same : (ways ps : List (ℕ × ℕ)) → ((p : ℕ × ℕ) → (Contains ps p → Contains ways p) × (Contains ways p → Contains ps p)) → IsSymmetric ways → (a b m n : ℕ)
    → IsLeast (Chain ps a) m → IsLeast (Chain ps b) n → (m ≡ n → Chain ways a b) × (Chain ways a b → m ≡ n)
classes_same ways ps same symmetric a b m n least_a least_b =
    let h = least_same ps (symmetric_same ways ps same symmetric) a b m n least_a least_b in
    ((λ e. Chain-among (λ x y k. (same (x, y)).0 k) (h.0 e)), (λ k. h.1 (Chain-among (λ x y i. (same (x, y)).1 i) k)))

-- chains of pairs of nodes lead from nodes to nodes
pub tied_below : (n : ℕ) (ps : List (ℕ × ℕ)) {a b : ℕ} → Chain (both_ways (within n ps)) a b → a < n → b < n
tied_below n ps (empty a) h = h
tied_below n ps (longer a m c before last) h = (All-contains (IsBelow n) (both_ways (within n ps)) (m, c) (all_below_ways n ps) last).1
