-- What statements declare are the variables and the constants of their numbers.
use Rattle.std.proofs.Common.{◌≡◌, refl, ap, sym, subst, ◌∙◌, ℕ, zero, suc, ◌+◌, Bool, true, false, cond, List, [], ◌∷◌, Some, slice_get, inl, inr, ⊎_elim, arith}
use Rattle.vb_tree.specs.declared.declared.Owner.{Owner}
use Rattle.vb_tree.specs.Tree.{Form}
use Rattle.vb_tree.specs.Tree as source
use Rattle.bound_tree.specs.Tree.{Variable, Constant, Declarations}
use Rattle.written_trees.specs.Prologues.{is_statement, variables_from, constants_from, variables_of, constants_of}
use Rattle.vb6_run.specs.Programs.{owned_from}
use Rattle.run_matches.specs.Sites.{Own, own_variable, own_constant, own_variables, own_constants, statement_owns, owns_from}
use Rattle.name_laws.proofs.Lists.{some_same, Among, among_append, among_left, among_right, among_map, map_among}

-- the item of a number, of items that are numbered from k
abbrev pub IsNumber : {X : Type 0} → (k : ℕ) → List X → ℕ → X → Type 0
IsNumber k xs j x = (i : ℕ) × (j ≡ k + i) × (slice_get xs i ≡ Some x)

first_number : {X : Type 0} (k : ℕ) (xs : List X) (y : X) (j : ℕ) (x : X) → k ≡ j → y ≡ x → IsNumber k (y ∷ xs) j x
first_number k xs y j x e r = (0, (let q = e in omega arith), ap Some r)

next_number : {X : Type 0} (k : ℕ) (xs : List X) (y : X) (j : ℕ) (x : X) → IsNumber (suc k) xs j x → IsNumber k (y ∷ xs) j x
next_number k xs y j x h = (suc h.0, (let q = h.1 in omega arith), h.2)

from_first : {X : Type 0} (xs : List X) (j : ℕ) (x : X) → IsNumber 0 xs j x → slice_get xs j ≡ Some x
from_first xs j x h = subst (λ (n : ℕ). slice_get xs n ≡ Some x) (let q : h.0 ≡ j = (let r = h.1 in omega arith) in q) h.2

-- ---- of a statement

variables_are : (file n k : ℕ) (vs : List Variable) (v : ℕ × Variable) → Among (variables_from file n k vs) v → IsNumber k vs v.0 v.1
variables_are file n k [] v h = absurd h
variables_are file n k (x ∷ xs) v h = by (is_statement file n x.place x.statement) h (λ m. variables_are file n (suc k) xs v m)
  where
    by : (b : Bool) → Among (cond b ((k, x) ∷ variables_from file n (suc k) xs) (variables_from file n (suc k) xs)) v
        → (Among (variables_from file n (suc k) xs) v → IsNumber (suc k) xs v.0 v.1) → IsNumber k (x ∷ xs) v.0 v.1
    by true (inl e) more = first_number k xs x v.0 v.1 (ap (λ (u : ℕ × Variable). u.0) e) (ap (λ (u : ℕ × Variable). u.1) e)
    by true (inr m) more = next_number k xs x v.0 v.1 (more m)
    by false m more = next_number k xs x v.0 v.1 (more m)

constants_are : (file n k : ℕ) (cs : List Constant) (c : ℕ × Constant) → Among (constants_from file n k cs) c → IsNumber k cs c.0 c.1
constants_are file n k [] c h = absurd h
constants_are file n k (x ∷ xs) c h = by (is_statement file n x.place x.statement) h (λ m. constants_are file n (suc k) xs c m)
  where
    by : (b : Bool) → Among (cond b ((k, x) ∷ constants_from file n (suc k) xs) (constants_from file n (suc k) xs)) c
        → (Among (constants_from file n (suc k) xs) c → IsNumber (suc k) xs c.0 c.1) → IsNumber k (x ∷ xs) c.0 c.1
    by true (inl e) more = first_number k xs x c.0 c.1 (ap (λ (u : ℕ × Constant). u.0) e) (ap (λ (u : ℕ × Constant). u.1) e)
    by true (inr m) more = next_number k xs x c.0 c.1 (more m)
    by false m more = next_number k xs x c.0 c.1 (more m)

pub variable_of_statement : (D : Declarations) (file n : ℕ) (v : ℕ × Variable) → Among (variables_of D file n) v → slice_get D.vars v.0 ≡ Some v.1
variable_of_statement D file n v h = from_first D.vars v.0 v.1 (variables_are file n 0 D.vars v h)

pub constant_of_statement : (D : Declarations) (file n : ℕ) (c : ℕ × Constant) → Among (constants_of D file n) c → slice_get D.consts c.0 ≡ Some c.1
constant_of_statement D file n c h = from_first D.consts c.0 c.1 (constants_are file n 0 D.consts c h)

-- ---- of lines

abbrev pub IsOwn : Declarations → Own → Type 0
IsOwn D (own_variable v x) = slice_get D.vars v ≡ Some x
IsOwn D (own_constant c x) = slice_get D.consts c ≡ Some x

statement_own : (D : Declarations) (file n : ℕ) (o : Own) → Among (statement_owns D file n) o → IsOwn D o
statement_own D file n o h =
    ⊎_elim
    (λ l. let m = among_map (λ (v : ℕ × Variable). own_variable v.0 v.1) (variables_of D file n) o l in
    subst (λ (q : Own). IsOwn D q) m.2 (variable_of_statement D file n m.0 m.1))
    (λ r. let m = among_map (λ (c : ℕ × Constant). own_constant c.0 c.1) (constants_of D file n) o r in
    subst (λ (q : Own). IsOwn D q) m.2 (constant_of_statement D file n m.0 m.1))
    (among_append (own_variables (variables_of D file n)) (own_constants (constants_of D file n)) o h)

pub lines_own : (D : Declarations) (file : ℕ) (test : Form → Bool) (n : ℕ) (lines : List source.Line) (o : Own) → Among (owns_from D file test n lines) o → IsOwn D o
lines_own D file test n [] o h = absurd h
lines_own D file test n (l ∷ ls) o h =
    ⊎_elim (λ m. by (test l.form) m) (λ m. lines_own D file test (suc n) ls o m)
    (among_append (cond (test l.form) (statement_owns D file n) []) (owns_from D file test (suc n) ls) o h)
  where
    by : (b : Bool) → Among (cond b (statement_owns D file n) []) o → IsOwn D o
    by true m = statement_own D file n o m
    by false m = absurd m

pub variable_among : (D : Declarations) (file n : ℕ) (v : ℕ × Variable) → Among (variables_of D file n) v → Among (statement_owns D file n) (own_variable v.0 v.1)
variable_among D file n v h =
    among_left (own_variables (variables_of D file n)) (own_constants (constants_of D file n)) (own_variable v.0 v.1)
    (map_among (λ (u : ℕ × Variable). own_variable u.0 u.1) (variables_of D file n) v h)

pub constant_among : (D : Declarations) (file n : ℕ) (c : ℕ × Constant) → Among (constants_of D file n) c → Among (statement_owns D file n) (own_constant c.0 c.1)
constant_among D file n c h =
    among_right (own_variables (variables_of D file n)) (own_constants (constants_of D file n)) (own_constant c.0 c.1)
    (map_among (λ (u : ℕ × Constant). own_constant u.0 u.1) (constants_of D file n) c h)

-- what a line declares is among what its procedure does
pub line_owns : (D : Declarations) (file : ℕ) (test : Form → Bool) (n i : ℕ) (lines : List source.Line) (l : source.Line) (o : Own) → slice_get lines i ≡ Some l
    → test l.form ≡ true → Among (statement_owns D file (n + i)) o → Among (owns_from D file test n lines) o
line_owns D file test n i [] l o e t h = absurd (cc e)
line_owns D file test n zero (m ∷ ms) l o e t h =
    let at : Among (statement_owns D file n) o = subst (λ (k : ℕ). Among (statement_owns D file k) o) (let q : n + 0 ≡ n = omega arith in q) h in
    let passes : true ≡ test m.form = sym (ap (λ (y : source.Line). test y.form) (some_same m l e) ∙ t) in
    among_left (cond (test m.form) (statement_owns D file n) []) (owns_from D file test (suc n) ms) o
    (subst (λ (b : Bool). Among (cond b (statement_owns D file n) []) o) passes at)
line_owns D file test n (suc i) (m ∷ ms) l o e t h =
    among_right (cond (test m.form) (statement_owns D file n) []) (owns_from D file test (suc n) ms) o
    (line_owns D file test (suc n) i ms l o e t (subst (λ (k : ℕ). Among (statement_owns D file k) o) (let q : n + suc i ≡ suc n + i = omega arith in q) h))

-- ---- numbers of variables

abbrev IsOwned : (Owner → Bool) → (k : ℕ) → List Variable → ℕ → Type 0
IsOwned test k xs j = (x : Variable) × IsNumber k xs j x × (test x.owner ≡ true)

owned_are : (test : Owner → Bool) (k : ℕ) (xs : List Variable) (j : ℕ) → Among (owned_from test k xs) j → IsOwned test k xs j
owned_are test k [] j h = absurd h
owned_are test k (y ∷ ys) j h = by (test y.owner) refl h (λ m. owned_are test (suc k) ys j m)
  where
    later : IsOwned test (suc k) ys j → IsOwned test k (y ∷ ys) j
    later o = (o.0, next_number k ys y j o.0 o.1, o.2)

    by : (b : Bool) → test y.owner ≡ b → Among (cond b (k ∷ owned_from test (suc k) ys) (owned_from test (suc k) ys)) j
        → (Among (owned_from test (suc k) ys) j → IsOwned test (suc k) ys j) → IsOwned test k (y ∷ ys) j
    by true e (inl q) more = (y, first_number k ys y j y q refl, e)
    by true e (inr m) more = later (more m)
    by false e m more = later (more m)

-- a variable whose number is among those of an owner has that owner
pub owned_is : (test : Owner → Bool) (xs : List Variable) (j : ℕ) (x : Variable) → Among (owned_from test 0 xs) j → slice_get xs j ≡ Some x → test x.owner ≡ true
owned_is test xs j x h e =
    let o = owned_are test 0 xs j h in
    let same = some_same o.0 x (sym (from_first xs j o.0 o.1) ∙ e) in
    sym (ap (λ (y : Variable). test y.owner) same) ∙ o.2
