-- The places of variables in their modules, where one variable more stands behind some.
use Rattle.std.proofs.Common.{◌≡◌, ℕ, suc, ◌+◌, ◌<◌, ◌≤◌, Bool, true, false, cond, List, [], ◌∷◌, ◌++◌, length, take, map, get_or, ap, sym, ◌∙◌, refl, nat_eq, ◌==◌, ◌&&◌, arith, length-take-le, length-append}
use Rattle.std.specs.Prelude.{Option, Some, None, position}
use Rattle.std.specs.List.{position_from}
use Rattle.std.proofs.lemmas.Iterator.Adapters.{position_from-zero}
use Rattle.std.proofs.lemmas.List.{append-nil, length-map, map-append, take_more}
use Rattle.bound_tree.specs.declared.declared.VarDecl.{VarDecl}
use Rattle.bound_tree.specs.Tree.{Variable}
use Rattle.bound_tree.specs.View.{variable_of}
use Rattle.bound_facts.specs.Members.{is_of_module, variables_from}
use Rattle.name_tables.specs.Scopes.{first_of}
use Rattle.name_tables.proofs.Firsts.{cond_first}

-- ---- positions

from_put : {X : Type 0} (t : X → Bool) (i : ℕ) (xs : List X) (x : X) → position_from t i (xs ++ x ∷ []) ≡ first_of (position_from t i xs) (cond (t x) (Some (length xs + i)) None)
from_put t i [] x = let e : i ≡ 0 + i = omega arith in ap (λ n. cond (t x) (Some n) None) e
from_put t i (y ∷ ys) x =
    let e : length ys + (i + 1) ≡ suc (length ys) + i = omega arith in
    ap (cond (t y) (Some i)) (from_put t (i + 1) ys x ∙ ap (λ n. first_of (position_from t (i + 1) ys) (cond (t x) (Some n) None)) e)
    ∙ cond_first (t y) i (position_from t (i + 1) ys) _

position_put : {X : Type 0} (t : X → Bool) (xs : List X) (x : X) → position t (xs ++ x ∷ []) ≡ first_of (position t xs) (cond (t x) (Some (length xs)) None)
position_put t xs x =
    let e : length xs + 0 ≡ length xs = omega arith in
    position_from-zero t (xs ++ x ∷ []) ∙ from_put t 0 xs x
    ∙ ap (λ n. first_of (position_from t 0 xs) (cond (t x) (Some n) None)) e
    ∙ ap (λ o. first_of o (cond (t x) (Some (length xs)) None)) (sym (position_from-zero t xs))

-- ---- variables of a module

last_here : (b : Bool) (k n : ℕ) → k + 0 ≡ n → cond b (k ∷ []) [] ≡ [] ++ cond b (n ∷ []) []
last_here true k n e = let h : k ≡ n = omega arith in ap (λ m. m ∷ []) h
last_here false k n e = refl

one_before : (b : Bool) (k : ℕ) (xs ys : List ℕ) → cond b (k ∷ (xs ++ ys)) (xs ++ ys) ≡ cond b (k ∷ xs) xs ++ ys
one_before true k xs ys = refl
one_before false k xs ys = refl

variables_put : (file k : ℕ) (vs : List Variable) (v : Variable)
    → variables_from file k (vs ++ v ∷ []) ≡ variables_from file k vs ++ cond (is_of_module file v.owner) ((k + length vs) ∷ []) []
variables_put file k [] v = last_here (is_of_module file v.owner) k (k + 0) refl
variables_put file k (x ∷ xs) v =
    let e : suc k + length xs ≡ k + suc (length xs) = omega arith in
    ap (λ ys. cond (is_of_module file x.owner) (k ∷ ys) ys)
    (variables_put file (suc k) xs v ∙ ap (λ n. variables_from file (suc k) xs ++ cond (is_of_module file v.owner) (n ∷ []) []) e)
    ∙ one_before (is_of_module file x.owner) k (variables_from file (suc k) xs) _

abbrev pub places_before : ℕ → ℕ → List VarDecl → List ℕ
places_before file i vars = variables_from file 0 (map variable_of (take i vars))

before_more : (file i : ℕ) (vars : List VarDecl) (v : VarDecl) → i < length vars → v ≡ get_or vars i v
    → places_before file (i + 1) vars ≡ places_before file i vars ++ cond (is_of_module file v.owner) (i ∷ []) []
before_more file i vars v h here =
    let p : i ≤ length vars = omega arith in
    let l : 0 + length (map variable_of (take i vars)) ≡ i = omega (arith, length-map (take i vars) variable_of, length-take-le i vars p) in
    ap (λ vs. variables_from file 0 (map variable_of vs)) (take_more vars i v h ∙ ap (λ x. take i vars ++ x ∷ []) (sym here))
    ∙ ap (variables_from file 0) (map-append variable_of (take i vars) (v ∷ []))
    ∙ variables_put file 0 (map variable_of (take i vars)) (variable_of v)
    ∙ ap (λ n. places_before file i vars ++ cond (is_of_module file v.owner) (n ∷ []) []) l

-- how many there are
count_put : (b : Bool) (xs : List ℕ) (i : ℕ) → length (xs ++ cond b (i ∷ []) []) ≡ length xs + cond b 1 0
count_put true xs i = length-append xs (i ∷ [])
count_put false xs i = let e : length xs ≡ length xs + 0 = omega arith in ap length (append-nil xs) ∙ e

pub count_more : (file i : ℕ) (vars : List VarDecl) (v : VarDecl) (old new : ℕ) → i < length vars → v ≡ get_or vars i v
    → old ≡ length (places_before file i vars) → new ≡ old + cond (is_of_module file v.owner) 1 0 → new ≡ length (places_before file (i + 1) vars)
count_more file i vars v old new h here o n =
    n ∙ ap (λ k. k + cond (is_of_module file v.owner) 1 0) o
    ∙ sym (ap length (before_more file i vars v h here) ∙ count_put (is_of_module file v.owner) (places_before file i vars) i)

-- where one stands
first_none : (o : Option ℕ) → o ≡ first_of o None
first_none None = refl
first_none (Some n) = refl

place_put : (b : Bool) (w i : ℕ) (xs : List ℕ)
    → position (nat_eq w) (xs ++ cond b (i ∷ []) []) ≡ first_of (position (nat_eq w) xs) (cond (b && nat_eq w i) (Some (length xs)) None)
place_put true w i xs = position_put (nat_eq w) xs i
place_put false w i xs = ap (position (nat_eq w)) (append-nil xs) ∙ first_none _

pub place_more : (file w i : ℕ) (vars : List VarDecl) (v : VarDecl) (count : ℕ) (old new : Option ℕ) → i < length vars → v ≡ get_or vars i v
    → count ≡ length (places_before file i vars) → old ≡ position (nat_eq w) (places_before file i vars)
    → new ≡ first_of old (cond (is_of_module file v.owner && nat_eq w i) (Some count) None)
    → new ≡ position (nat_eq w) (places_before file (i + 1) vars)
place_more file w i vars v count old new h here counts o n =
    n ∙ ap (λ p. first_of p (cond (is_of_module file v.owner && nat_eq w i) (Some count) None)) o
    ∙ ap (λ k. first_of (position (nat_eq w) (places_before file i vars)) (cond (is_of_module file v.owner && nat_eq w i) (Some k) None)) counts
    ∙ sym (ap (position (nat_eq w)) (before_more file i vars v h here) ∙ place_put (is_of_module file v.owner) w i (places_before file i vars))
