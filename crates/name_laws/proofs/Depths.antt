-- A growing chain of sets of numbers below a bound, each made from the one before it, grows no more behind as many steps.
use Rattle.std.proofs.Common.{◌≡◌, refl, sym, subst, ◌∙◌, ℕ, zero, suc, ◌+◌, ◌<◌, ◌≤◌, Bool, true, false, arith, inl, inr, ⊎_elim, true≢false}
use Rattle.std.specs.Prelude.{◌⊎◌}
use Rattle.written_trees.specs.Prologues.{one_if}

-- ---- how many numbers pass

abbrev count_below : (ℕ → Bool) → ℕ → ℕ
count_below g zero = 0
count_below g (suc k) = one_if (g k) + count_below g k

one_at_most : (b : Bool) → one_if b ≤ 1
one_at_most true = omega arith
one_at_most false = omega arith

at_most : (g : ℕ → Bool) (k : ℕ) → count_below g k ≤ k
at_most g zero = omega arith
at_most g (suc k) = omega (arith, at_most g k, one_at_most (g k))

ones : (a b : Bool) → (a ≡ true → b ≡ true) → one_if a ≤ one_if b
ones true b h = subst (λ z. 1 ≤ one_if z) (sym (h refl)) (omega arith)
ones false b h = omega arith

no_fewer : (g h : ℕ → Bool) → ((t : ℕ) → g t ≡ true → h t ≡ true) → (k : ℕ) → count_below g k ≤ count_below h k
no_fewer g h sub zero = omega arith
no_fewer g h sub (suc k) = omega (arith, no_fewer g h sub k, ones (g k) (h k) (sub k))

last_or_before : (t k : ℕ) → t < suc k → (t < k) ⊎ (t ≡ k)
last_or_before zero zero l = inr refl
last_or_before zero (suc k) l = inl (omega arith)
last_or_before (suc t) zero l = absurd (omega (arith, l))
last_or_before (suc t) (suc k) l =
    ⊎_elim (λ m. inl (omega (arith, m))) (λ e. inr (omega (arith, e))) (last_or_before t k (omega (arith, l)))

-- the second passes no more than the first, or more numbers
abbrev IsNoMore : (ℕ → Bool) → (ℕ → Bool) → ℕ → Type 0
IsNoMore g h k = (t : ℕ) → t < k → h t ≡ true → g t ≡ true

compare : (g h : ℕ → Bool) → ((t : ℕ) → g t ≡ true → h t ≡ true) → (k : ℕ) → IsNoMore g h k ⊎ (count_below g k < count_below h k)
compare g h sub zero = inl (λ t l e. absurd (omega (arith, l)))
compare g h sub (suc k) = by (compare g h sub k)
  where
    here : (a b : Bool) → g k ≡ a → h k ≡ b → IsNoMore g h k → IsNoMore g h (suc k) ⊎ (count_below g (suc k) < count_below h (suc k))
    here true b p q all = inl (λ t l e. ⊎_elim (λ m. all t m e) (λ s. subst (λ z. g z ≡ true) (sym s) p) (last_or_before t k l))
    here false true p q all =
        let one : one_if (h k) ≡ 1 = subst (λ z. one_if z ≡ 1) (sym q) refl in
        let none : one_if (g k) ≡ 0 = subst (λ z. one_if z ≡ 0) (sym p) refl in
        inr (omega (arith, one, none, no_fewer g h sub k))
    here false false p q all =
        inl
        (λ t l e.
        ⊎_elim (λ m. all t m e) (λ s. absurd (true≢false (sym (subst (λ z. h z ≡ true) s e) ∙ q))) (last_or_before t k l))

    by : IsNoMore g h k ⊎ (count_below g k < count_below h k) → IsNoMore g h (suc k) ⊎ (count_below g (suc k) < count_below h (suc k))
    by (inl all) = here (g k) (h k) refl refl all
    by (inr l) = inr (omega (arith, l, ones (g k) (h k) (sub k)))

-- ---- the chain

module _ (f : ℕ → ℕ → Bool) (bound : ℕ) (more : (n t : ℕ) → f n t ≡ true → f (suc n) t ≡ true) (below : (n t : ℕ) → f n t ≡ true → t < bound)
    (step : (n : ℕ) → ((t : ℕ) → f (suc n) t ≡ true → f n t ≡ true) → (t : ℕ) → f (suc (suc n)) t ≡ true → f (suc n) t ≡ true) where
  abbrev IsClosed : ℕ → Type 0
  IsClosed n = (t : ℕ) → f (suc n) t ≡ true → f n t ≡ true

  grows : (n : ℕ) → (n ≤ count_below (f n) bound) ⊎ IsClosed n
  grows zero = inl (omega arith)
  grows (suc n) = by (grows n)
    where
      next : n ≤ count_below (f n) bound → IsNoMore (f n) (f (suc n)) bound ⊎ (count_below (f n) bound < count_below (f (suc n)) bound)
          → (suc n ≤ count_below (f (suc n)) bound) ⊎ IsClosed (suc n)
      next l (inl all) = inr (step n (λ t h. all t (below (suc n) t h) h))
      next l (inr m) = inl (omega (arith, l, m))

      by : (n ≤ count_below (f n) bound) ⊎ IsClosed n → (suc n ≤ count_below (f (suc n)) bound) ⊎ IsClosed (suc n)
      by (inl l) = next l (compare (f n) (f (suc n)) (more n) bound)
      by (inr closed) = inr (step n closed)

  closed_there : IsClosed (suc bound)
  closed_there = ⊎_elim (λ l. absurd (omega (arith, l, at_most (f (suc bound)) bound))) (λ c. c) (grows (suc bound))

  closed_by : (k m : ℕ) → m ≡ k + suc bound → IsClosed m
  closed_by zero m e = subst IsClosed (let q : suc bound ≡ m = omega (arith, e) in q) closed_there
  closed_by (suc k) m e =
      subst IsClosed (let q : suc (k + suc bound) ≡ m = omega (arith, e) in q) (step (k + suc bound) (closed_by k (k + suc bound) refl))

  back : (k m t : ℕ) → m ≡ k + suc bound → f m t ≡ true → f (suc bound) t ≡ true
  back zero m t e h = subst (λ z. f z t ≡ true) (let q : m ≡ suc bound = omega (arith, e) in q) h
  back (suc k) m t e h =
      back k (k + suc bound) t refl
      (closed_by k (k + suc bound) refl t (subst (λ z. f z t ≡ true) (let q : m ≡ suc (k + suc bound) = omega (arith, e) in q) h))

  onward : (k n m t : ℕ) → m ≡ k + n → f n t ≡ true → f m t ≡ true
  onward zero n m t e h = subst (λ z. f z t ≡ true) (let q : n ≡ m = omega (arith, e) in q) h
  onward (suc k) n m t e h =
      subst (λ z. f z t ≡ true) (let q : suc (k + n) ≡ m = omega (arith, e) in q) (more (k + n) t (onward k n (k + n) t refl h))

  -- what passes at some step passes behind one step more than the bound
  pub settled : (n t : ℕ) → f n t ≡ true → f (suc bound) t ≡ true
  settled n t h = back n (n + suc bound) t refl (onward (suc bound) n (n + suc bound) t (omega arith) h)
