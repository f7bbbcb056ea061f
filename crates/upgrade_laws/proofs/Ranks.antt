-- The rank and the lower bounds of an array whose declaration breaks no rule are those that each line and declaration gives to it.
use Rattle.std.proofs.Common.{◌≡◌, ◌≢◌, ℕ, zero, suc, ◌+◌, ◌<◌, ◌≤◌, Bool, true, false, List, [], ◌∷◌, ◌++◌, length, Some, None, refl, ap, sym, subst, ◌∙◌, arith, nat_eq, nat_lt, eq-eqb, eqb-true, lt-ltb, ltb-true}
use Rattle.std.specs.Prelude.{ℤ, ◌&&◌, cond, IsTrue, Option, slice_get}
use Rattle.std.specs.List.{Contains, filter, flat_map, list_all}
use Rattle.std.specs.Ordering.{int_eq}
use Rattle.std.specs.Cmp.{signed_Decides}
use Rattle.std.proofs.lemmas.List.Elements.{Contains-append_left, Contains-append_right}
use Rattle.std.proofs.lemmas.Option.{none-some, same_Some}
use Rattle.up_base.proofs.Lists.{both_true, by_test}
use Rattle.vb_tree.specs.BoundTree.{Ty}
use Rattle.bound_tree.specs.Tree.{Line, Program, Variable}
use Rattle.reach_table.specs.Chains.{Chain, empty, longer}
use Rattle.bound_facts.specs.Bounds.{AreTied, Low, LowIs, Rank, RankIs, base_low, least_low, least_rank, no_rank, ranks, ties}
use Rattle.bound_facts.specs.Calls.{count_variables}
use Rattle.bound_facts.specs.Items.{items_from, project_items}
use Rattle.bound_facts.specs.Leading.{both_ways, is_within, turned, two_ways, within}
use Rattle.bound_facts.specs.Node.{is_array_type}
use Rattle.bound_facts.proofs.Chains.{Chain-joined, Chain-turned}
use Rattle.bound_facts.proofs.Ways.{ways_turned}
use Rattle.array_bounds.specs.Facts.{IsSplit, IsTorn, two_ranks}
use Rattle.written_trees.specs.Facts.{is_array_variable}
use Rattle.run_matches.specs.CoveredVariables.{has_extents, has_rank}
use Rattle.upgrade_laws.proofs.Lists.{here, in_none, there}

-- ---- what stands in lists

pub got_in : {A : Type 0} (xs : List A) (i : ℕ) (x : A) → slice_get xs i ≡ Some x → Contains xs x
got_in [] i x e = absurd (none-some x e)
got_in (y ∷ ys) zero x e = subst (Contains (y ∷ ys)) (same_Some y x e) (here y ys)
got_in (y ∷ ys) (suc i) x e = there y ys x (got_in ys i x e)

pub contains_flat : {A B : Type 0} (f : A → List B) (xs : List A) (x : A) (y : B) → Contains xs x → Contains (f x) y → Contains (flat_map f xs) y
contains_flat f [] x y i h = absurd (in_none x i)
contains_flat f (z ∷ zs) x y (zero, l, e) h = Contains-append_left (f z) (flat_map f zs) y (subst (λ a. Contains (f a) y) (sym e) h)
contains_flat f (z ∷ zs) x y (suc k, l, e) h = Contains-append_right (f z) (flat_map f zs) y (contains_flat f zs x y (k, omega (arith, l), e) h)

-- what the line k of the procedure p gives is among what the lines of the project give
items_contain : {X : Type 0} (f : ℕ → Line → List X) (first : ℕ) (bodies : List (List Line)) (p k : ℕ) (lines : List Line) (l : Line) (y : X)
    → slice_get bodies p ≡ Some lines → slice_get lines k ≡ Some l → Contains (f (first + p) l) y → Contains (items_from f first bodies) y
items_contain f first [] p k lines l y e g h = absurd (none-some lines e)
items_contain f first (b ∷ bodies) zero k lines l y e g h =
    Contains-append_left (flat_map (f first) b) (items_from f (first + 1) bodies) y
    (contains_flat (f first) b l y (got_in b k l (ap (λ (ls : List Line). slice_get ls k) (same_Some b lines e) ∙ g))
    (subst (λ n. Contains (f n l) y) (omega arith) h))
items_contain f first (b ∷ bodies) (suc p) k lines l y e g h =
    Contains-append_right (flat_map (f first) b) (items_from f (first + 1) bodies) y
    (items_contain f (first + 1) bodies p k lines l y e g (subst (λ n. Contains (f n l) y) (omega arith) h))

pub project_contains : {X : Type 0} (f : ℕ → Line → List X) (bodies : List (List Line)) (p k : ℕ) (lines : List Line) (l : Line) (y : X)
    → slice_get bodies p ≡ Some lines → slice_get lines k ≡ Some l → Contains (f p l) y → Contains (project_items f bodies) y
project_contains f bodies p k lines l y e g h = items_contain f 0 bodies p k lines l y e g (subst (λ n. Contains (f n l) y) (omega arith) h)

in_filter : {A : Type 0} (test : A → Bool) (xs : List A) (x : A) → test x ≡ true → Contains xs x → Contains (filter test xs) x
in_filter test [] x t h = absurd (omega (arith, h.1))
in_filter test (y ∷ ys) x t (zero, l, e) = by (test y) (ap test e ∙ t)
  where
    by : (b : Bool) → b ≡ true → Contains (cond b (y ∷ filter test ys) (filter test ys)) x
    by true c = subst (λ z. Contains (z ∷ filter test ys) x) (sym e) (here x (filter test ys))
    by false c = absurd (cc c)
in_filter test (y ∷ ys) x t (suc k, l, e) = by (test y) (in_filter test ys x t (k, omega (arith, l), e))
  where
    by : (b : Bool) → Contains (filter test ys) x → Contains (cond b (y ∷ filter test ys) (filter test ys)) x
    by true h = there y (filter test ys) x h
    by false h = h

pub below : {A : Type 0} (xs : List A) (i : ℕ) (x : A) → slice_get xs i ≡ Some x → i < length xs
below [] i x e = absurd (none-some x e)
below (y ∷ ys) zero x e = omega arith
below (y ∷ ys) (suc i) x e = let more = below ys i x e in omega (arith, more)

pub array_below : (P : Program) (v : ℕ) → is_array_variable (slice_get P.declarations.vars v) ≡ true → v < count_variables P
array_below P v h = by (slice_get P.declarations.vars v) refl h
  where
    by : (o : Option Variable) → slice_get P.declarations.vars v ≡ o → is_array_variable o ≡ true → v < count_variables P
    by None e c = absurd (cc c)
    by (Some x) e c = below P.declarations.vars v x e

-- ---- ties

ways_contain : (ps : List (ℕ × ℕ)) (p : ℕ × ℕ) → Contains ps p → Contains (both_ways ps) p
ways_contain [] p h = absurd (omega (arith, h.1))
ways_contain (q ∷ ps) p (zero, l, e) =
    Contains-append_left (two_ways q) (both_ways ps) p (subst (λ z. Contains (z ∷ turned z ∷ []) p) (sym e) (here p (turned p ∷ [])))
ways_contain (q ∷ ps) p (suc k, l, e) = Contains-append_right (two_ways q) (both_ways ps) p (ways_contain ps p (k, omega (arith, l), e))

are_within : (n a b : ℕ) → a < n → b < n → is_within n (a, b) ≡ true
are_within n a b h k = ap {B = Bool} (λ c. c && nat_lt b n) (lt-ltb a n h) ∙ lt-ltb b n k

-- a tie of two variables
pub tied : (P : Program) (a b : ℕ) → a < count_variables P → b < count_variables P → Contains (ties P) (a, b) → AreTied P a b
tied P a b h k c =
    longer a a b (empty a)
    (ways_contain (within (count_variables P) (ties P)) (a, b)
    (in_filter (is_within (count_variables P)) (ties P) (a, b) (are_within (count_variables P) a b h k) c))

turned_tie : (P : Program) (a b : ℕ) → AreTied P a b → AreTied P b a
turned_tie P a b h = Chain-turned (ways_turned (within (count_variables P) (ties P))) h

-- what is tied to an array has its ranks
pub rank_over : (P : Program) (a b r : ℕ) → AreTied P a b → Rank P b r → Rank P a r
rank_over P a b r t (c, s, i) = (c, Chain-joined t s, i)

-- ---- one rank

pub rank_is : {P : Program} {a r s : ℕ} → RankIs P a r → RankIs P a s → r ≡ s
rank_is (least_rank r own least) (least_rank s more small) = let up = least s more in let down = small r own in omega arith
rank_is (least_rank r own least) (no_rank never) = absurd (never r own)
rank_is (no_rank never) (least_rank s more small) = absurd (never s more)
rank_is (no_rank never) (no_rank too) = refl

pub tied_rank : (P : Program) (a b : ℕ) → AreTied P a b → {r s : ℕ} → RankIs P a r → RankIs P b s → r ≡ s
tied_rank P a b t (least_rank r own least) (least_rank s more small) =
    let up = least s (rank_over P a b s t more) in
    let down = small r (rank_over P b a r (turned_tie P a b t) own) in
    omega arith
tied_rank P a b t (least_rank r own least) (no_rank never) = absurd (never r (rank_over P b a r (turned_tie P a b t) own))
tied_rank P a b t (no_rank never) (least_rank s more small) = absurd (never s (rank_over P a b s t more))
tied_rank P a b t (no_rank never) (no_rank too) = refl

-- where each rank that is given has a dimension, each array has one
all_true : {A : Type 0} (test : A → Bool) (xs : List A) (x : A) → list_all test xs ≡ true → Contains xs x → test x ≡ true
all_true test [] x h i = absurd (in_none x i)
all_true test (y ∷ ys) x h (zero, l, e) = ap test (sym e) ∙ (both_true (test y) (list_all test ys) h).0
all_true test (y ∷ ys) x h (suc k, l, e) = all_true test ys x (both_true (test y) (list_all test ys) h).1 (k, omega (arith, l), e)

pub rank_above : (P : Program) (a : ℕ) → {r : ℕ} → has_extents P ≡ true → RankIs P a r → 0 < r
rank_above P a h (least_rank r own least) = ltb-true 0 r (all_true has_rank (ranks P) (own.0, r) h own.2)
rank_above P a h (no_rank never) = omega arith

-- an array without two ranks has each that is given to it
pub rank_given : (P : Program) (a n : ℕ) → {r : ℕ} → RankIs P a r → Rank P a n → (IsTorn P a → ⊥) → r ≡ n
rank_given P a n (least_rank r own least) h untorn =
    by_test (nat_eq r n) (λ c. r ≡ n) (λ e. eqb-true r n e)
    (λ e. absurd (untorn (two_ranks r n own h (λ s. absurd (cc (eq-eqb r n s, e))))))
rank_given P a n (no_rank never) h untorn = absurd (never n h)

-- ---- one lower bound

pub low_given : (P : Program) (d a : ℕ) (z : ℤ) → {y : ℤ} → LowIs P d a y → Low P d a z → (IsSplit P a → ⊥) → y ≡ z
low_given P d a z (least_low y own least) h unsplit =
    by_test (int_eq y z) (λ c. y ≡ z) (λ e. (signed_Decides y z).0 e)
    (λ e. absurd (unsplit (record { dimension = d; one = y; other = z; one_is = own; other_is = h; differ = λ s. absurd (cc ((signed_Decides y z).1 s, e)) })))
low_given P d a z (base_low never) h unsplit = absurd (never z h)
