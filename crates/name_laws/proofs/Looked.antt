-- Names that are the same, and what a search through a list finds first.
use Rattle.std.proofs.Common.{◌≡◌, refl, ap, sym, subst, ◌∙◌, ℕ, zero, suc, ◌<◌, Bool, true, false, cond, not, nat_eq, List, [], ◌∷◌, get_or, Some, None, slice_get, arith, inl, inr}
use Rattle.std.specs.Prelude.{find, position}
use Rattle.std.specs.List.{list_all}
use Rattle.std.specs.Cmp.Lexicographic.{pointwise}
use Rattle.std.proofs.lemmas.List.Quantifiers.{position-Some}
use Rattle.std.proofs.lemmas.Option.{slice_get-get_or}
use Rattle.up_base.specs.Names.{is_same_name, lower_case}
use Rattle.net_run.specs.Shapes.{first_from}
use Rattle.run_matches.specs.Shared.{is_other}
use Rattle.name_laws.proofs.Lists.{both_true, and_true, same_number, same_numbers, some_same, Among}

-- ---- names

pub not_true : (b : Bool) → not b ≡ true → b ≡ false
not_true true h = absurd (cc h)
not_true false h = refl

units_same : (xs : List ℕ) → pointwise nat_eq xs xs ≡ true
units_same [] = refl
units_same (x ∷ xs) = and_true (nat_eq x x) (pointwise nat_eq xs xs) (same_number x x refl) (units_same xs)

pub name_self : (name : List ℕ) → is_same_name name name ≡ true
name_self name = units_same (lower_case name)

-- two names of one thing
pub name_joined : (a b c : List ℕ) → is_same_name a b ≡ true → is_same_name a c ≡ true → is_same_name c b ≡ true
name_joined a b c h e =
    let to_b : lower_case a ≡ lower_case b = same_numbers (lower_case a) (lower_case b) h in
    let to_c : lower_case a ≡ lower_case c = same_numbers (lower_case a) (lower_case c) e in
    subst (λ z. pointwise nat_eq (lower_case c) z ≡ true) (sym to_c ∙ to_b) (units_same (lower_case c))

pub other_name : (name n : List ℕ) → is_other name n ≡ true → is_same_name n name ≡ false
other_name name n h = not_true (is_same_name n name) h

-- ---- the first that passes

-- what is found first, where something passes and all that is there is allowed
abbrev pub FoundFirst : {X : Type 0} → (test allowed : X → Bool) → ℕ → List X → Type 0
FoundFirst {X} test allowed k xs = (n : ℕ) × (x : X) × (first_from test k xs ≡ Some (n, x)) × (test x ≡ true) × (allowed x ≡ true)

pub first_found : {X : Type 0} (test allowed : X → Bool) (k : ℕ) (xs : List X) (x : X) → list_all allowed xs ≡ true → Among xs x → test x ≡ true
    → FoundFirst test allowed k xs
first_found test allowed k [] x h m e = absurd m
first_found {X} test allowed k (y ∷ ys) x h m e =
    let b = both_true (allowed y) (list_all allowed ys) h in
    by (test y) refl m b.0 (λ n. first_found test allowed (suc k) ys x b.1 n e)
  where
    by : (t : Bool) → test y ≡ t → Among (y ∷ ys) x → allowed y ≡ true → (Among ys x → FoundFirst test allowed (suc k) ys) → FoundFirst test allowed k (y ∷ ys)
    by true q n a more = (k, y, ap (λ t. cond t (Some (k, y)) (first_from test (suc k) ys)) q, q, a)
    by false q (inl n) a more = absurd (cc (sym q ∙ ap test n ∙ e))
    by false q (inr n) a more =
        let f = more n in
        (f.0, f.1, ap (λ t. cond t (Some (k, y)) (first_from test (suc k) ys)) q ∙ f.2, f.3, f.4)

pub first_none : {X : Type 0} (test : X → Bool) (k : ℕ) (xs : List X) → list_all (λ (x : X). not (test x)) xs ≡ true → first_from test k xs ≡ None
first_none test k [] h = refl
first_none {X} test k (x ∷ xs) h =
    let b = both_true (not (test x)) (list_all (λ (x : X). not (test x)) xs) h in
    ap (λ t. cond t (Some (k, x)) (first_from test (suc k) xs)) (not_true (test x) b.0) ∙ first_none test (suc k) xs b.1

-- ---- positions

first_at : {X : Type 0} (p : X → Bool) (xs : List X) (i : ℕ) (x : X) → slice_get xs i ≡ Some x → p x ≡ true
    → ((k : ℕ) (d : X) → k < i → p (get_or xs k d) ≡ false) → find p xs ≡ Some x
first_at p [] i x e h before = absurd (cc e)
first_at p (y ∷ ys) zero x e h before =
    let same : y ≡ x = some_same y x e in
    ap (λ t. cond t (Some y) (find p ys)) (ap p same ∙ h) ∙ ap Some same
first_at p (y ∷ ys) (suc i) x e h before =
    ap (λ t. cond t (Some y) (find p ys)) (before 0 y (omega arith)) ∙ first_at p ys i x e h (λ k d l. before (suc k) d (omega (arith, l)))

-- what stands at the first place that passes
pub position_at : {X : Type 0} (p : X → Bool) (xs : List X) (i : ℕ) (x : X) → position p xs ≡ Some i → slice_get xs i ≡ Some x
    → (p x ≡ true) × (find p xs ≡ Some x)
position_at p xs i x e at =
    let s = position-Some p xs i x e in
    let same : get_or xs i x ≡ x = some_same (get_or xs i x) x (sym (slice_get-get_or xs i x s.0) ∙ at) in
    let passes : p x ≡ true = ap p (sym same) ∙ s.1 in
    (passes, first_at p xs i x at passes (λ k d l. (position-Some p xs i d e).2 k l))
