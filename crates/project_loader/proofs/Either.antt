-- What can't be refuted. Each statement holds or fails, as long as nothing is chosen by that.
use Rattle.std.proofs.Common.{◌≡◌, ◌⊎◌, inl, inr, ℕ, zero, suc, ◌<◌, ◌≤◌, subst, arith}
use Rattle.std.proofs.Math.Nat.{lt_of_not-le}

-- the double negation of a statement
abbrev pub Irrefutable : Type 0 → Type 0
Irrefutable A = (A → ⊥) → ⊥

pub pure : {A : Type 0} → A → Irrefutable A
pure a against = against a

pub bind : {A B : Type 0} → Irrefutable A → (A → Irrefutable B) → Irrefutable B
bind h f against = h (λ a. f a against)

pub either : (A : Type 0) → Irrefutable (A ⊎ (A → ⊥))
either A against = against (inr (λ a. against (inl a)))

by_case : {A B C : Type 0} → (A → Irrefutable C) → (B → Irrefutable C) → A ⊎ B → Irrefutable C
by_case f g (inl a) = f a
by_case f g (inr b) = g b

pub cases : {A B C : Type 0} → Irrefutable (A ⊎ B) → (A → Irrefutable C) → (B → Irrefutable C) → Irrefutable C
cases h f g = bind h (by_case f g)

-- ---- numbers

pub at_most : (n m : ℕ) → Irrefutable ((n ≤ m) ⊎ (m < n))
at_most n m = cases (either (n ≤ m)) (λ low. pure (inl low)) (λ above. pure (inr (lt_of_not-le {n = n} {m = m} above)))

-- an equation of numbers that can't be refuted holds
pub same_number : (a b : ℕ) → Irrefutable (a ≡ b) → a ≡ b
same_number a b h =
    let low : a < suc b = lt_of_not-le {n = suc b} {m = a} (λ above. h (λ e. omega (arith, above, e))) in
    let high : b < suc a = lt_of_not-le {n = suc a} {m = b} (λ above. h (λ e. omega (arith, above, e))) in
    omega (arith, low, high)

-- the least number of which P holds
abbrev pub Least : (ℕ → Type 0) → Type 0
Least P = (n : ℕ) × P n × ((j : ℕ) → P j → n ≤ j)

not_below : (P : ℕ → Type 0) (b : ℕ) → ((j : ℕ) → j < b → P j → ⊥) → (j : ℕ) → P j → b ≤ j
not_below P b none j p =
    let above : b < suc j = lt_of_not-le {n = suc j} {m = b} (λ low. none j low p) in
    omega (arith, above)

one_more : (P : ℕ → Type 0) (b : ℕ) → ((j : ℕ) → j < b → P j → ⊥) → (P b → ⊥) → (j : ℕ) → j < suc b → P j → ⊥
one_more P b none absent j low p =
    let above = not_below P b none j p in
    let same : j ≡ b = omega (arith, low, above) in
    absent (subst P same p)

none_or_least : (P : ℕ → Type 0) (b : ℕ) → Irrefutable (((j : ℕ) → j < b → P j → ⊥) ⊎ Least P)
none_or_least P zero = pure (inl (λ j low p. omega (arith, low)))
none_or_least P (suc b) =
    cases (none_or_least P b)
    (λ none. cases (either (P b)) (λ p. pure (inr (b, p, not_below P b none))) (λ absent. pure (inl (one_more P b none absent))))
    (λ found. pure (inr found))

pub least : (P : ℕ → Type 0) (n : ℕ) → P n → Irrefutable (Least P)
least P n p = cases (none_or_least P (suc n)) (λ none. absurd (none n (omega arith) p)) (λ found. pure found)
