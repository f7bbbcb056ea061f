-- Tests whether positions are the same, and functions that were changed at one of them.
use Rattle.std.proofs.Common.{◌≡◌, ◌⊎◌, inl, inr, refl, sym, ap, subst, ◌∙◌, ℕ, ◌<◌, true, false, cond, nat_eq, List, [], ◌∷◌, true≢false, eqb-true, eq-eqb, arith}
use Rattle.up_base.proofs.Tests.{by_test, both_true, and_true}
use Rattle.run_base.specs.Positions.{Root, shared, made, field, Position, is_same_path, is_same_root, is_same_position, updated, updated_at}

-- ---- tests

same_path : (p q : List ℕ) → is_same_path p q ≡ true → p ≡ q
same_path [] [] e = refl
same_path (a ∷ p) (b ∷ q) e =
    let h : (nat_eq a b ≡ true) × (is_same_path p q ≡ true) = both_true (nat_eq a b) (is_same_path p q) e in
    ap (λ x. x ∷ p) (eqb-true a b h.0) ∙ ap (λ x. b ∷ x) (same_path p q h.1)
same_path _ _ e = cc

path_self : (p : List ℕ) → is_same_path p p ≡ true
path_self [] = refl
path_self (a ∷ p) = and_true (nat_eq a a) (is_same_path p p) (eq-eqb a a refl) (path_self p)

same_root : (r s : Root) → is_same_root r s ≡ true → r ≡ s
same_root (shared k) (shared l) e = ap shared (same_path k l e)
same_root (made a) (made b) e = ap made (eqb-true a b e)
same_root (field a k) (field b l) e =
    let h : (nat_eq a b ≡ true) × (is_same_path k l ≡ true) = both_true (nat_eq a b) (is_same_path k l) e in
    ap (λ x. field x k) (eqb-true a b h.0) ∙ ap (λ x. field b x) (same_path k l h.1)
same_root _ _ e = cc

root_self : (r : Root) → is_same_root r r ≡ true
root_self (shared k) = path_self k
root_self (made a) = eq-eqb a a refl
root_self (field a k) = and_true (nat_eq a a) (is_same_path k k) (eq-eqb a a refl) (path_self k)

abbrev pub at : Root → List ℕ → Position
at r path = record { root = r; path = path }

pub same_position : (p q : Position) → is_same_position p q ≡ true → p ≡ q
same_position p q e =
    let h : (is_same_root p.root q.root ≡ true) × (is_same_path p.path q.path ≡ true) = both_true (is_same_root p.root q.root) (is_same_path p.path q.path) e in
    ap (λ x. at x p.path) (same_root p.root q.root h.0) ∙ ap (λ x. at q.root x) (same_path p.path q.path h.1)

position_self : (p : Position) → is_same_position p p ≡ true
position_self p = and_true (is_same_root p.root p.root) (is_same_path p.path p.path) (root_self p.root) (path_self p.path)

position_other : (p q : Position) → is_same_position p q ≡ false → p ≡ q → ⊥
position_other p q n s = true≢false (sym (subst (λ x. is_same_position p x ≡ true) s (position_self p)) ∙ n)

pub either_position : (p q : Position) → (p ≡ q) ⊎ (p ≡ q → ⊥)
either_position p q =
    by_test (is_same_position p q) (λ b. (p ≡ q) ⊎ (p ≡ q → ⊥)) (λ y. inl (same_position p q y)) (λ n. inr (position_other p q n))

pub either_root : (r s : Root) → (r ≡ s) ⊎ (r ≡ s → ⊥)
either_root r s =
    by_test (is_same_root r s) (λ b. (r ≡ s) ⊎ (r ≡ s → ⊥)) (λ y. inl (same_root r s y))
    (λ n. inr (λ e. true≢false (sym (subst (λ x. is_same_root r x ≡ true) e (root_self r)) ∙ n)))

pub other_position : (p q : Position) → (p ≡ q → ⊥) → is_same_position p q ≡ false
other_position p q h = by_test (is_same_position p q) (λ b. b ≡ false) (λ y. absurd (h (same_position p q y))) (λ n. refl)

-- ---- functions of positions

pub updated_here : {V : Type 0} (f : Position → V) (p : Position) (v : V) → updated f p v p ≡ v
updated_here f p v = ap (λ b. cond b v (f p)) (position_self p)

pub updated_other : {V : Type 0} (f : Position → V) (p : Position) (v : V) (q : Position) → (p ≡ q → ⊥) → updated f p v q ≡ f q
updated_other f p v q h = ap (λ b. cond b v (f q)) (other_position p q h)

-- what stands somewhere after the change is what was written, or stood there before
pub updated_cases : {V : Type 0} (f : Position → V) (p : Position) (v : V) (q : Position) (x : V) → updated f p v q ≡ x → (v ≡ x) ⊎ (f q ≡ x)
updated_cases f p v q x e = by_test (is_same_position p q) (λ b. cond b v (f q) ≡ x → (v ≡ x) ⊎ (f q ≡ x)) (λ y i. inl i) (λ n i. inr i) e

-- ---- functions of numbers

pub updated_at_here : {V : Type 0} (f : ℕ → V) (a : ℕ) (v : V) → updated_at f a v a ≡ v
updated_at_here f a v = ap (λ b. cond b v (f a)) (eq-eqb a a refl)

not_same : (a b : ℕ) → b < a → a ≡ b → ⊥
not_same a b lt e = omega arith

other_number : (a b : ℕ) → b < a → nat_eq a b ≡ false
other_number a b lt = by_test (nat_eq a b) (λ t. t ≡ false) (λ y. absurd (not_same a b lt (eqb-true a b y))) (λ n. refl)

pub updated_at_other : {V : Type 0} (f : ℕ → V) (a : ℕ) (v : V) (b : ℕ) → (a ≡ b → ⊥) → updated_at f a v b ≡ f b
updated_at_other f a v b h = by_test (nat_eq a b) (λ t. cond t v (f b) ≡ f b) (λ y. absurd (h (eqb-true a b y))) (λ n. refl)

pub updated_at_below : {V : Type 0} (f : ℕ → V) (a : ℕ) (v : V) (b : ℕ) → b < a → updated_at f a v b ≡ f b
updated_at_below f a v b lt = ap (λ t. cond t v (f b)) (other_number a b lt)
