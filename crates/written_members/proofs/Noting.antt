-- A table in which the list for one statement gets one more item.
use Rattle.std.proofs.Common.{◌≡◌, ◌<◌, ◌≤◌, ◌+◌, ℕ, suc, Bool, true, false, cond, List, [], ◌∷◌, ◌++◌, map, length, get_or, drop, drop-cons, add-one, refl, sym, ap, ◌∙◌, Global, append_assoc, append-nil, nat_eq, ◌&&◌}
use Rattle.std.specs.Prelude.{Vec, Some}
use Rattle.std.specs.HashMap.{HashMap, get}
use Rattle.std.proofs.lemmas.Bool.{eqb-true}
use Rattle.std.proofs.lemmas.List.{drop_all, map-append}
use Rattle.bound_tree.specs.declared.declared.ConstDecl.{ConstDecl}
use Rattle.bound_tree.specs.declared.declared.VarDecl.{VarDecl}
use Rattle.bound_tree.specs.Tree.{Variable, Constant}
use Rattle.bound_tree.specs.View.{constant_of, variable_of}
use Rattle.written_trees.specs.Prologues.{constants_from, is_statement, variables_from}
use Rattle.written_members.specs.declared.statements.ConstRef.{ConstRef}
use Rattle.written_members.specs.declared.statements.VarRef.{VarRef}
use Rattle.written_members.specs.Noted.{is_same_pair, items_in, noted}
use Rattle.written_members.specs.Shown.{constant_shown, variable_shown}

both_true : (a b : Bool) → (a && b) ≡ true → (a ≡ true) × (b ≡ true)
both_true true b h = (refl, h)
both_true false b h = absurd (cc h)

-- the list for a statement is taken out, and put back with one more item
pub one_more : {X S : Type 0} (m n : HashMap (ℕ × ℕ) (Vec X Global) S) (old : ℕ → ℕ → List X) (file number : ℕ) (list : Vec X Global) (item : X)
    → ((f k : ℕ) → (nat_eq file f && nat_eq number k) ≡ false → noted m f k ≡ old f k)
    → list.items ≡ old file number ++ item ∷ []
    → ((q : ℕ × ℕ) → get is_same_pair n q ≡ cond (is_same_pair (file, number) q) (Some list) (get is_same_pair m q))
    → (f k : ℕ) → noted n f k ≡ old f k ++ cond (nat_eq file f && nat_eq number k) (item ∷ []) []
one_more {X} m n old file number list item others more updates f k = ap items_in (updates (f, k)) ∙ by_test (nat_eq file f && nat_eq number k) refl
  where
    by_test : (t : Bool) → (nat_eq file f && nat_eq number k) ≡ t → items_in (cond t (Some list) (get is_same_pair m (f, k))) ≡ old f k ++ cond t (item ∷ []) []
    by_test true e =
        let h = both_true (nat_eq file f) (nat_eq number k) e in
        more ∙ ap (λ (xs : List X). xs ++ item ∷ []) (ap (λ x. old x number) (eqb-true file f h.0) ∙ ap (old f) (eqb-true number k h.1))
    by_test false e = others f k e ∙ sym (append-nil (old f k))

-- the items as contracts see them
pub one_shown : {X Y : Type 0} (shown : X → Y) (xs : List X) (item : X) (t : Bool) → map shown (xs ++ cond t (item ∷ []) []) ≡ map shown xs ++ cond t (shown item ∷ []) []
one_shown shown xs item t = map-append shown xs (cond t (item ∷ []) []) ∙ ap (λ ys. map shown xs ++ ys) (by_test t)
  where
    by_test : (t : Bool) → map shown (cond t (item ∷ []) []) ≡ cond t (shown item ∷ []) []
    by_test true = refl
    by_test false = refl

-- the declarations of a list, from one to the next
first_of : {Y : Type 0} (t : Bool) (y : Y) (ys : List Y) → cond t (y ∷ []) [] ++ ys ≡ cond t (y ∷ ys) ys
first_of true y ys = refl
first_of false y ys = refl

pub variables_go_on : (before after whole : List (ℕ × Variable)) (file n k : ℕ) (v : Variable) (vs : List Variable)
    → before ++ variables_from file n k (v ∷ vs) ≡ whole → after ≡ before ++ variables_from file n k (v ∷ []) → after ++ variables_from file n (suc k) vs ≡ whole
variables_go_on before after whole file n k v vs h more =
    ap (λ xs. xs ++ variables_from file n (suc k) vs) more ∙ append_assoc before (variables_from file n k (v ∷ [])) (variables_from file n (suc k) vs)
    ∙ ap (λ xs. before ++ xs) (first_of (is_statement file n v.place v.statement) (k, v) (variables_from file n (suc k) vs)) ∙ h

pub constants_go_on : (before after whole : List (ℕ × Constant)) (file n k : ℕ) (c : Constant) (cs : List Constant)
    → before ++ constants_from file n k (c ∷ cs) ≡ whole → after ≡ before ++ constants_from file n k (c ∷ []) → after ++ constants_from file n (suc k) cs ≡ whole
constants_go_on before after whole file n k c cs h more =
    ap (λ xs. xs ++ constants_from file n (suc k) cs) more ∙ append_assoc before (constants_from file n k (c ∷ [])) (constants_from file n (suc k) cs)
    ∙ ap (λ xs. before ++ xs) (first_of (is_statement file n c.place c.statement) (k, c) (constants_from file n (suc k) cs)) ∙ h

pub variables_step : (vars : List VarDecl) (i : ℕ) (x : VarDecl) (before after whole : List (ℕ × Variable)) (file n : ℕ) → i < length vars → x ≡ get_or vars i x
    → before ++ variables_from file n i (map variable_of (drop i vars)) ≡ whole → after ≡ before ++ variables_from file n i (variable_of x ∷ [])
    → after ++ variables_from file n (i + 1) (map variable_of (drop (i + 1) vars)) ≡ whole
variables_step vars i x before after whole file n h is e more =
    rw add-one
    (variables_go_on before after whole file n i (variable_of x) (map variable_of (drop (suc i) vars))
    (ap (λ ys. before ++ variables_from file n i (map variable_of ys)) (sym front) ∙ e) more)
  where
    front : drop i vars ≡ x ∷ drop (suc i) vars
    front = drop-cons vars i x h ∙ ap (λ y. y ∷ drop (suc i) vars) (sym is)

pub variables_end : (vars : List VarDecl) (i : ℕ) (before whole : List (ℕ × Variable)) (file n : ℕ) → length vars ≤ i
    → before ++ variables_from file n i (map variable_of (drop i vars)) ≡ whole → before ≡ whole
variables_end vars i before whole file n h e =
    sym (append-nil before) ∙ ap (λ ys. before ++ variables_from file n i (map variable_of ys)) (sym (drop_all i vars h)) ∙ e

pub constants_step : (consts : List ConstDecl) (i : ℕ) (x : ConstDecl) (before after whole : List (ℕ × Constant)) (file n : ℕ) → i < length consts → x ≡ get_or consts i x
    → before ++ constants_from file n i (map constant_of (drop i consts)) ≡ whole → after ≡ before ++ constants_from file n i (constant_of x ∷ [])
    → after ++ constants_from file n (i + 1) (map constant_of (drop (i + 1) consts)) ≡ whole
constants_step consts i x before after whole file n h is e more =
    rw add-one
    (constants_go_on before after whole file n i (constant_of x) (map constant_of (drop (suc i) consts))
    (ap (λ ys. before ++ constants_from file n i (map constant_of ys)) (sym front) ∙ e) more)
  where
    front : drop i consts ≡ x ∷ drop (suc i) consts
    front = drop-cons consts i x h ∙ ap (λ y. y ∷ drop (suc i) consts) (sym is)

pub constants_end : (consts : List ConstDecl) (i : ℕ) (before whole : List (ℕ × Constant)) (file n : ℕ) → length consts ≤ i
    → before ++ constants_from file n i (map constant_of (drop i consts)) ≡ whole → before ≡ whole
constants_end consts i before whole file n h e =
    sym (append-nil before) ∙ ap (λ ys. before ++ constants_from file n i (map constant_of ys)) (sym (drop_all i consts h)) ∙ e

pub variable_noted : (old new : List VarRef) (r : VarRef) (file n i : ℕ) → r.number ≡ i
    → new ≡ old ++ cond (nat_eq r.decl.now.place.file file && nat_eq r.decl.now.statement n) (r ∷ []) []
    → map variable_shown new ≡ map variable_shown old ++ variables_from file n i (variable_of r.decl.now ∷ [])
variable_noted old new r file n i h e =
    ap (map variable_shown) e ∙ one_shown variable_shown old r (nat_eq r.decl.now.place.file file && nat_eq r.decl.now.statement n)
    ∙ ap (λ (k : ℕ). map variable_shown old ++ cond (nat_eq r.decl.now.place.file file && nat_eq r.decl.now.statement n) ((k, variable_of r.decl.now) ∷ []) []) h

pub constant_noted : (old new : List ConstRef) (r : ConstRef) (file n i : ℕ) → r.number ≡ i
    → new ≡ old ++ cond (nat_eq r.decl.now.place.file file && nat_eq r.decl.now.statement n) (r ∷ []) []
    → map constant_shown new ≡ map constant_shown old ++ constants_from file n i (constant_of r.decl.now ∷ [])
constant_noted old new r file n i h e =
    ap (map constant_shown) e ∙ one_shown constant_shown old r (nat_eq r.decl.now.place.file file && nat_eq r.decl.now.statement n)
    ∙ ap (λ (k : ℕ). map constant_shown old ++ cond (nat_eq r.decl.now.place.file file && nat_eq r.decl.now.statement n) ((k, constant_of r.decl.now) ∷ []) []) h
