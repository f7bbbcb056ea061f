-- Chains of other pairs.
use Rattle.std.proofs.Common.{◌≡◌, ℕ, ◌<◌, Bool, true, false, cond, List, [], ◌∷◌, map, length, refl, ap, sym, ◌∙◌, arith, nat_lt}
use Rattle.std.specs.Prelude.{◌&&◌}
use Rattle.std.specs.List.{All, Contains}
use Rattle.std.proofs.lemmas.List.{length-map, get_or-map}
use Rattle.std.proofs.lemmas.List.Elements.{All-cons, All-nil}
use Rattle.std.proofs.lemmas.Bool.{ltb-true}
use Rattle.reach_table.specs.Chains.{Chain, empty, longer, Spread}
use Rattle.reach_table.specs.Table.{IsBelow}
use Rattle.bound_facts.specs.Leading.{Leads, within, is_within, turned}

pub both_true : (a b : Bool) → a && b ≡ true → (a ≡ true) × (b ≡ true)
both_true true b e = (refl, e)
both_true false b e = absurd (cc e)

-- one more pair at the front
pub Chain-before : {pairs : List (ℕ × ℕ)} (a : ℕ) {b c : ℕ} → Contains pairs (a, b) → Chain pairs b c → Chain pairs a c
Chain-before a first (empty b) = longer a a b (empty a) first
Chain-before a first (longer b m c before last) = longer a m c (Chain-before a first before) last

pub Chain-joined : {pairs : List (ℕ × ℕ)} {a b c : ℕ} → Chain pairs a b → Chain pairs b c → Chain pairs a c
Chain-joined first (empty b) = first
Chain-joined {a = a} first (longer b m c before last) = longer a m c (Chain-joined first before) last

-- where each pair is among others, turned round
pub Chain-turned : {ps qs : List (ℕ × ℕ)} → ((a b : ℕ) → Contains ps (a, b) → Contains qs (b, a)) → {a b : ℕ} → Chain ps a b → Chain qs b a
Chain-turned back (empty a) = empty a
Chain-turned back (longer a m c before last) = Chain-before c (back m c last) (Chain-turned back before)

pub Chain-among : {ps qs : List (ℕ × ℕ)} → ((a b : ℕ) → Contains ps (a, b) → Contains qs (a, b)) → {a b : ℕ} → Chain ps a b → Chain qs a b
Chain-among same (empty a) = empty a
Chain-among same (longer a m c before last) = longer a m c (Chain-among same before) (same m c last)

pub Contains-turned : (ps : List (ℕ × ℕ)) (a b : ℕ) → Contains (map turned ps) (a, b) → Contains ps (b, a)
Contains-turned ps a b h =
    let l : h.0 < length ps = omega (arith, h.1, length-map ps turned) in
    (h.0, l, ap turned (sym (get_or-map turned ps h.0 (b, a) (a, b) l) ∙ h.2))

pub turned-Contains : (ps : List (ℕ × ℕ)) (a b : ℕ) → Contains ps (a, b) → Contains (map turned ps) (b, a)
turned-Contains ps a b h =
    let l : h.0 < length (map turned ps) = omega (arith, h.1, length-map ps turned) in
    (h.0, l, get_or-map turned ps h.0 (a, b) (b, a) h.1 ∙ ap turned h.2)

below_one : (n : ℕ) (p : ℕ × ℕ) (b : Bool) → is_within n p ≡ b → (ps : List (ℕ × ℕ)) → All (IsBelow n) (map turned ps) → All (IsBelow n) (map turned (cond b (p ∷ ps) ps))
below_one n p true e ps h = let both = both_true (nat_lt p.0 n) (nat_lt p.1 n) e in All-cons (IsBelow n) (turned p) (map turned ps) (ltb-true p.1 n both.1, ltb-true p.0 n both.0) h
below_one n p false e ps h = h

pub all_below : (n : ℕ) (ps : List (ℕ × ℕ)) → All (IsBelow n) (map turned (within n ps))
all_below n [] = All-nil (IsBelow n)
all_below n (p ∷ ps) = below_one n p (is_within n p) refl (within n ps) (all_below n ps)

-- what spreads over the turned pairs is what leads over the pairs
pub Leads-from_turned : (pairs turned_pairs : List (ℕ × ℕ)) (marked : List Bool) (n : ℕ)
    → ((p : ℕ × ℕ) → (Contains turned_pairs p → Contains (map turned pairs) p) × (Contains (map turned pairs) p → Contains turned_pairs p))
    → (Spread turned_pairs marked n → Leads pairs marked n) × (Leads pairs marked n → Spread turned_pairs marked n)
Leads-from_turned pairs turned_pairs marked n same = (
  (λ h. (h.0, h.1, Chain-turned (λ a b c. Contains-turned pairs a b ((same (a, b)).0 c)) h.2)),
  (λ h. (h.0, h.1, Chain-turned (λ a b c. (same (b, a)).1 (turned-Contains pairs a b c)) h.2)),
)
