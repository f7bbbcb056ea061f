-- The variables of a class are those that its module declares.
use Rattle.std.proofs.Common.{◌≡◌, inl, inr, ⊎_elim, refl, sym, ap, subst, ◌∙◌, ℕ, zero, suc, ◌+◌, ◌≤◌, true, false, cond, nat_eq, Some, List, [], ◌∷◌, arith, true≢false, eqb-true, eq-eqb}
use Rattle.std.specs.Prelude.{slice_get}
use Rattle.up_base.proofs.Tests.{by_test}
use Rattle.vb_tree.specs.declared.declared.Owner.{Owner}
use Rattle.vb_tree.specs.declared.declared.Owner.TheVariants as owner
use Rattle.bound_tree.specs.Tree.{Declarations, Variable}
use Rattle.bound_facts.specs.Members.{class_files, is_of_module, variables_from}
use Rattle.run_matches.specs.Match.{is_class_variable}
use Rattle.run_matches.specs.Upgrades.{is_that}
use Rattle.run_statements.specs.Frames.{IsOne}

-- ---- the class of a file

same_number : (a b : ℕ) → nat_eq a b ≡ nat_eq b a
same_number a b =
    by_test (nat_eq b a) (λ t. nat_eq a b ≡ t) (λ e. eq-eqb a b (sym (eqb-true b a e)))
    (λ n. by_test (nat_eq a b) (λ t. t ≡ false) (λ e. absurd (true≢false (sym (eq-eqb b a (sym (eqb-true a b e))) ∙ n))) (λ e. refl))

pub class_variable_is : (D : Declarations) (c file : ℕ) → slice_get (class_files D.project) c ≡ Some file → (of : Owner)
    → is_class_variable D c of ≡ is_of_module file of
class_variable_is D c file is (owner.Module f) = ap (is_that f) is ∙ same_number f file
class_variable_is D c file is (owner.Local p) = refl
class_variable_is D c file is (owner.Static p) = refl
class_variable_is D c file is (owner.Value p) = refl
class_variable_is D c file is (owner.Reference p) = refl
class_variable_is D c file is (owner.Answer p) = refl
class_variable_is D c file is (owner.Field t) = refl

-- ---- the numbers of its variables

some_is : (x y : Variable) → Some x ≡ Some y → x ≡ y
some_is x y e = cc

one_more : (k n : ℕ) → suc k ≤ n → k ≤ n
one_more k n le = omega arith

here_first : (k n : ℕ) → k ≡ n → k ≤ n
here_first k n e = omega arith

too_low : (k n : ℕ) → suc k ≤ n → n ≡ zero + k → ⊥
too_low k n le e = omega arith

up_one : (i k n : ℕ) → n ≡ suc i + k → n ≡ i + suc k
up_one i k n e = omega arith

not_first : (i k n : ℕ) → n ≡ suc i + k → k ≡ n → ⊥
not_first i k n e f = omega arith

first_is : (k n : ℕ) → n ≡ zero + k → k ≡ n
first_is k n e = omega arith

at_least : (file k : ℕ) (vs : List Variable) (n : ℕ) → IsOne (variables_from file k vs) n → k ≤ n
at_least file k [] n i = absurd i
at_least file k (x ∷ vs) n i =
    by_test (is_of_module file x.owner)
    (λ b. IsOne (cond b (k ∷ variables_from file (suc k) vs) (variables_from file (suc k) vs)) n → k ≤ n)
    (λ y j. ⊎_elim (λ e. here_first k n e) (λ z. one_more k n (at_least file (suc k) vs n z)) j) (λ y j. one_more k n (at_least file (suc k) vs n j)) i

-- a variable of the module is one of them
pub is_listed : (file k : ℕ) (vs : List Variable) (i n : ℕ) (x : Variable) → n ≡ i + k → slice_get vs i ≡ Some x → is_of_module file x.owner ≡ true
    → IsOne (variables_from file k vs) n
is_listed file k [] i n x e is of = cc
is_listed file k (y ∷ vs) zero n x e is of =
    subst (λ b. IsOne (cond b (k ∷ variables_from file (suc k) vs) (variables_from file (suc k) vs)) n)
    (sym (ap (λ (z : Variable). is_of_module file z.owner) (some_is y x is) ∙ of)) (inl (first_is k n e))
is_listed file k (y ∷ vs) (suc i) n x e is of =
    let later : IsOne (variables_from file (suc k) vs) n = is_listed file (suc k) vs i n x (up_one i k n e) is of in
    by_test (is_of_module file y.owner)
    (λ b. IsOne (cond b (k ∷ variables_from file (suc k) vs) (variables_from file (suc k) vs)) n) (λ t. inr later) (λ t. later)

-- and no other is
pub listed_is : (file k : ℕ) (vs : List Variable) (i n : ℕ) (x : Variable) → n ≡ i + k → slice_get vs i ≡ Some x → IsOne (variables_from file k vs) n
    → is_of_module file x.owner ≡ true
listed_is file k [] i n x e is one = absurd one
listed_is file k (y ∷ vs) zero n x e is one =
    by_test (is_of_module file y.owner)
    (λ b. is_of_module file y.owner ≡ b → IsOne (cond b (k ∷ variables_from file (suc k) vs) (variables_from file (suc k) vs)) n
    → is_of_module file x.owner ≡ true)
    (λ t f j. ap (λ (z : Variable). is_of_module file z.owner) (sym (some_is y x is)) ∙ t)
    (λ t f j. absurd (too_low k n (at_least file (suc k) vs n j) e)) refl one
listed_is file k (y ∷ vs) (suc i) n x e is one =
    by_test (is_of_module file y.owner)
    (λ b. IsOne (cond b (k ∷ variables_from file (suc k) vs) (variables_from file (suc k) vs)) n → is_of_module file x.owner ≡ true)
    (λ t j. ⊎_elim (λ f. absurd (not_first i k n e f)) (λ z. listed_is file (suc k) vs i n x (up_one i k n e) is z) j)
    (λ t j. listed_is file (suc k) vs i n x (up_one i k n e) is j) one
