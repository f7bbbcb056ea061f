-- Which variables are those of an owner, by their numbers.
use Rattle.std.proofs.Common.{◌≡◌, ◌⊎◌, inl, inr, refl, sym, ap, subst, ◌∙◌, ℕ, zero, suc, ◌+◌, Bool, true, false, cond, ◌||◌, nat_eq, List, [], ◌∷◌, ◌++◌, Some, eqb-true, eq-eqb, true≢false, arith}
use Rattle.std.specs.Prelude.{slice_get}
use Rattle.std.specs.Cmp.Lexicographic.{pointwise}
use Rattle.std.specs.List.{list_any}
use Rattle.up_base.proofs.Tests.{both_true}
use Rattle.vb_tree.specs.declared.declared.Owner.{Owner}
use Rattle.bound_tree.specs.Tree.{Variable, Declarations}
use Rattle.vb6_run.specs.Programs.{owned_from}
use Rattle.typing_laws.proofs.Places.{not_none, some_is}

pub either_any : (a b : Bool) → b ≡ true → a || b ≡ true
either_any true b h = refl
either_any false b h = h

-- ---- by their owners

record Owned (test : Owner → Bool) (n : ℕ) (xs : List Variable) (k : ℕ) : Type 0 where
  place : ℕ
  variable : Variable
  number : k ≡ n + place
  is_variable : slice_get xs place ≡ Some variable
  passes : test variable.owner ≡ true

module _ (test : Owner → Bool) where
  further : (n : ℕ) (x : Variable) (xs : List Variable) (k : ℕ) → Owned test (suc n) xs k → Owned test n (x ∷ xs) k
  further n x xs k o =
      let number = o.number in
      record { place = suc o.place; variable = o.variable; number = omega (arith, number); is_variable = o.is_variable; passes = o.passes }

  owned_in : (n : ℕ) (xs : List Variable) (k : ℕ) → list_any (nat_eq k) (owned_from test n xs) ≡ true → Owned test n xs k
  owned_in n [] k h = absurd (true≢false (sym h))
  owned_in n (x ∷ xs) k h = by (test x.owner) refl h (owned_in (suc n) xs k)
    where
      here : test x.owner ≡ true → (b : Bool) → nat_eq k n ≡ b → b || list_any (nat_eq k) (owned_from test (suc n) xs) ≡ true
          → (list_any (nat_eq k) (owned_from test (suc n) xs) ≡ true → Owned test (suc n) xs k) → Owned test n (x ∷ xs) k
      here passes true e h more =
          let one : k ≡ n = eqb-true k n e in
          record { place = 0; variable = x; number = omega (arith, one); is_variable = refl; passes = passes }
      here passes false e h more = further n x xs k (more h)

      by : (b : Bool) → test x.owner ≡ b → list_any (nat_eq k) (cond b (n ∷ owned_from test (suc n) xs) (owned_from test (suc n) xs)) ≡ true
          → (list_any (nat_eq k) (owned_from test (suc n) xs) ≡ true → Owned test (suc n) xs k) → Owned test n (x ∷ xs) k
      by true e h more = here e (nat_eq k n) refl h more
      by false e h more = further n x xs k (more h)

  owned_has : (n : ℕ) (xs : List Variable) (i k : ℕ) (x : Variable) → k ≡ n + i → slice_get xs i ≡ Some x → test x.owner ≡ true
      → list_any (nat_eq k) (owned_from test n xs) ≡ true
  owned_has n [] i k x number is passes = absurd (not_none is)
  owned_has n (y ∷ xs) zero k x number is passes =
      let one : y ≡ x = some_is is in
      ap (λ b. list_any (nat_eq k) (cond b (n ∷ owned_from test (suc n) xs) (owned_from test (suc n) xs)))
      (ap (λ (z : Variable). test z.owner) one ∙ passes)
      ∙ ap (λ b. b || list_any (nat_eq k) (owned_from test (suc n) xs)) (eq-eqb k n (omega (arith, number)))
  owned_has n (y ∷ xs) (suc i) k x number is passes =
      by (test y.owner) (owned_has (suc n) xs i k x (let e : k ≡ suc n + i = omega (arith, number) in e) is passes)
    where
      by : (b : Bool) → list_any (nat_eq k) (owned_from test (suc n) xs) ≡ true
          → list_any (nat_eq k) (cond b (n ∷ owned_from test (suc n) xs) (owned_from test (suc n) xs)) ≡ true
      by true h = either_any (nat_eq k n) (list_any (nat_eq k) (owned_from test (suc n) xs)) h
      by false h = h

-- a variable of an owner that passes is among them, and each of them is one
pub owned_at : (test : Owner → Bool) (D : Declarations) (k : ℕ) (x : Variable) → slice_get D.vars k ≡ Some x → test x.owner ≡ true
    → list_any (nat_eq k) (owned_from test 0 D.vars) ≡ true
owned_at test D k x is passes = owned_has test 0 D.vars k k x (let e : k ≡ 0 + k = omega arith in e) is passes

pub record OwnedAt (test : Owner → Bool) (D : Declarations) (k : ℕ) : Type 0 where
  pub variable : Variable
  pub is_variable : slice_get D.vars k ≡ Some variable
  pub passes : test variable.owner ≡ true

pub owned_of : (test : Owner → Bool) (D : Declarations) (k : ℕ) → list_any (nat_eq k) (owned_from test 0 D.vars) ≡ true → OwnedAt test D k
owned_of test D k h =
    let o : Owned test 0 D.vars k = owned_in test 0 D.vars k h in
    let number = o.number in
    let one : o.place ≡ k = omega (arith, number) in
    record { variable = o.variable; is_variable = subst (λ n. slice_get D.vars n ≡ Some o.variable) one o.is_variable; passes = o.passes }

pub same_numbers : (xs ys : List ℕ) → pointwise nat_eq xs ys ≡ true → xs ≡ ys
same_numbers [] [] h = refl
same_numbers (x ∷ xs) (y ∷ ys) h =
    let b = both_true (nat_eq x y) (pointwise nat_eq xs ys) h in
    ap (λ z. z ∷ xs) (eqb-true x y b.0) ∙ ap (λ zs. y ∷ zs) (same_numbers xs ys b.1)
same_numbers [] (y ∷ ys) h = absurd (true≢false (sym h))
same_numbers (x ∷ xs) [] h = absurd (true≢false (sym h))

pub any_append : (k : ℕ) (xs ys : List ℕ) → list_any (nat_eq k) (xs ++ ys) ≡ true → (list_any (nat_eq k) xs ≡ true) ⊎ (list_any (nat_eq k) ys ≡ true)
any_append k [] ys h = inr h
any_append k (x ∷ xs) ys h = by (nat_eq k x) h (any_append k xs ys)
  where
    by : (b : Bool) → b || list_any (nat_eq k) (xs ++ ys) ≡ true
        → (list_any (nat_eq k) (xs ++ ys) ≡ true → (list_any (nat_eq k) xs ≡ true) ⊎ (list_any (nat_eq k) ys ≡ true))
        → (b || list_any (nat_eq k) xs ≡ true) ⊎ (list_any (nat_eq k) ys ≡ true)
    by true h rest = inl refl
    by false h rest = rest h

pub any_left : (k : ℕ) (xs ys : List ℕ) → list_any (nat_eq k) xs ≡ true → list_any (nat_eq k) (xs ++ ys) ≡ true
any_left k [] ys h = absurd (true≢false (sym h))
any_left k (x ∷ xs) ys h = by (nat_eq k x) h (any_left k xs ys)
  where
    by : (b : Bool) → b || list_any (nat_eq k) xs ≡ true → (list_any (nat_eq k) xs ≡ true → list_any (nat_eq k) (xs ++ ys) ≡ true)
        → b || list_any (nat_eq k) (xs ++ ys) ≡ true
    by true h rest = refl
    by false h rest = rest h

pub any_right : (k : ℕ) (xs ys : List ℕ) → list_any (nat_eq k) ys ≡ true → list_any (nat_eq k) (xs ++ ys) ≡ true
any_right k [] ys h = h
any_right k (x ∷ xs) ys h = either_any (nat_eq k x) (list_any (nat_eq k) (xs ++ ys)) (any_right k xs ys h)
