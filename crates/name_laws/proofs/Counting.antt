-- How many items of a list pass a test, and which is the first.
use Rattle.std.proofs.Common.{◌≡◌, refl, sym, ap, ◌∙◌, ℕ, zero, suc, ◌+◌, ◌<◌, Bool, true, false, cond, not, List, [], ◌∷◌, ◌++◌, length, Some, None, slice_get, arith}
use Rattle.std.specs.Prelude.{nat_lt, position}
use Rattle.std.specs.List.{position_or_len}
use Rattle.std.proofs.lemmas.Bool.{lt-ltb}
use Rattle.written_trees.specs.Prologues.{one_if}
use Rattle.net_run.specs.Shapes.{first_from}
use Rattle.name_laws.proofs.Lists.{some_same}

abbrev pub count_of : {X : Type 0} → (X → Bool) → List X → ℕ
count_of test [] = 0
count_of test (x ∷ xs) = one_if (test x) + count_of test xs

pub count_append : {X : Type 0} (test : X → Bool) (xs ys : List X) → count_of test (xs ++ ys) ≡ count_of test xs + count_of test ys
count_append test [] ys = omega arith
count_append test (x ∷ xs) ys = let h = count_append test xs ys in omega (arith, h)

-- where one passes, the count is at least one
pub count_some : {X : Type 0} (test : X → Bool) (xs : List X) (k : ℕ) (x : X) → slice_get xs k ≡ Some x → test x ≡ true → 0 < count_of test xs
count_some test [] k x e h = absurd (cc e)
count_some test (y ∷ ys) zero x e h =
    let passes : one_if (test y) ≡ 1 = ap (λ z. one_if (test z)) (some_same y x e) ∙ ap one_if h in
    omega (arith, passes)
count_some test (y ∷ ys) (suc k) x e h = let more = count_some test ys k x e h in omega (arith, more)

only_one : (b : Bool) (n : ℕ) → one_if b + n < 2 → 0 < n → b ≡ false
only_one true n h k = absurd (omega (arith, h, k))
only_one false n h k = refl

rest_below : (b : Bool) (n : ℕ) → one_if b + n < 2 → n < 2
rest_below b n h = omega (arith, h)

no_more : (i : ℕ) → i + 0 ≡ i
no_more i = omega arith

one_more : (i k : ℕ) → suc i + k ≡ i + suc k
one_more i k = omega arith

-- the only one that passes is the first
pub first_found : {X : Type 0} (test : X → Bool) (i : ℕ) (xs : List X) (k : ℕ) (x : X) → slice_get xs k ≡ Some x → test x ≡ true → count_of test xs < 2
    → first_from test i xs ≡ Some (i + k, x)
first_found test i [] k x e h once = absurd (cc e)
first_found test i (y ∷ ys) zero x e h once =
    ap (λ b. cond b (Some (i, y)) (first_from test (suc i) ys)) (ap test (some_same y x e) ∙ h)
    ∙ (λ j. Some (sym (no_more i) j, some_same y x e j))
first_found test i (y ∷ ys) (suc k) x e h once =
    ap (λ b. cond b (Some (i, y)) (first_from test (suc i) ys)) (only_one (test y) (count_of test ys) once (count_some test ys k x e h))
    ∙ first_found test (suc i) ys k x e h (rest_below (test y) (count_of test ys) once)
    ∙ ap (λ n. Some (n, x)) (one_more i k)

none_of_sum : (b : Bool) (n : ℕ) → one_if b + n ≡ 0 → (b ≡ false) × (n ≡ 0)
none_of_sum true n h = absurd (omega (arith, h))
none_of_sum false n h = (refl, omega (arith, h))

-- where none passes, none is found
pub none_found : {X : Type 0} (test : X → Bool) (i : ℕ) (xs : List X) → count_of test xs ≡ 0 → first_from test i xs ≡ None
none_found test i [] h = refl
none_found test i (y ∷ ys) h =
    let both = none_of_sum (test y) (count_of test ys) h in
    ap (λ b. cond b (Some (i, y)) (first_from test (suc i) ys)) both.0 ∙ none_found test (suc i) ys both.1

-- what is found stands at its number
pub found_stands : {X : Type 0} (test : X → Bool) (i : ℕ) (xs : List X) (n : ℕ) (x : X) → first_from test i xs ≡ Some (n, x)
    → (k : ℕ) × (n ≡ i + k) × (slice_get xs k ≡ Some x)
found_stands test i [] n x e = absurd (cc e)
found_stands {X} test i (y ∷ ys) n x e = by (test y) e (λ z. found_stands test (suc i) ys n x z)
  where
    by : (b : Bool) → cond b (Some (i, y)) (first_from test (suc i) ys) ≡ Some (n, x)
        → (first_from test (suc i) ys ≡ Some (n, x) → (k : ℕ) × (n ≡ suc i + k) × (slice_get ys k ≡ Some x))
        → (k : ℕ) × (n ≡ i + k) × (slice_get (y ∷ ys) k ≡ Some x)
    by true z more =
        let pair : ◌≡◌ {A = ℕ × X} (i, y) (n, x) = some_same (i, y) (n, x) z in
        (0, sym (ap (λ (p : ℕ × X). p.0) pair) ∙ sym (no_more i), ap Some (ap (λ (p : ℕ × X). p.1) pair))
    by false z more = let m = more z in (suc m.0, m.1 ∙ one_more i m.0, m.2)

-- the place of the only one that passes
place_found : {X : Type 0} (test : X → Bool) (xs : List X) (k : ℕ) (x : X) → slice_get xs k ≡ Some x → test x ≡ true → count_of test xs < 2
    → position_or_len test xs ≡ k
place_found test [] k x e h once = absurd (cc e)
place_found test (y ∷ ys) zero x e h once =
    ap (λ b. cond (not b) (1 + position_or_len test ys) 0) (ap test (some_same y x e) ∙ h)
place_found test (y ∷ ys) (suc k) x e h once =
    ap (λ b. cond (not b) (1 + position_or_len test ys) 0) (only_one (test y) (count_of test ys) once (count_some test ys k x e h))
    ∙ (let more = place_found test ys k x e h (rest_below (test y) (count_of test ys) once) in omega (arith, more))

below : {X : Type 0} (xs : List X) (k : ℕ) (x : X) → slice_get xs k ≡ Some x → k < length xs
below [] k x e = absurd (cc e)
below (y ∷ ys) zero x e = omega arith
below (y ∷ ys) (suc k) x e = let h = below ys k x e in omega (arith, h)

-- what stands in a list is within
pub within : {X : Type 0} (xs : List X) (k : ℕ) (x : X) → slice_get xs k ≡ Some x → nat_lt k (length xs) ≡ true
within xs k x e = lt-ltb k (length xs) (below xs k x e)

pub position_found : {X : Type 0} (test : X → Bool) (xs : List X) (k : ℕ) (x : X) → slice_get xs k ≡ Some x → test x ≡ true → count_of test xs < 2
    → position test xs ≡ Some k
position_found test xs k x e h once =
    ap (λ n. cond (nat_lt n (length xs)) (Some n) None) (place_found test xs k x e h once) ∙ ap (λ b. cond b (Some k) None) (within xs k x e)
