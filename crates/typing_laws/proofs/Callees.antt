-- Procedures that can be run, and what they reach.
use Rattle.std.proofs.Common.{◌≡◌, ◌⊎◌, inl, inr, refl, sym, ap, subst, ◌∙◌, ℕ, zero, suc, ◌+◌, ◌<◌, Bool, true, false, cond, true≢false, List, [], ◌∷◌, ◌++◌, length, Option, Some, None, arith, lt-ltb, ◌&&◌}
use Rattle.std.specs.Prelude.{filter, nat_lt, slice_get}
use Rattle.std.specs.List.{Contains, flat_map, list_all}
use Rattle.up_base.proofs.Tests.{both_true, and_true}
use Rattle.bound_tree.specs.Tree.{Declarations, Expr, typed, call, no_object, of_object, Line, Procedure, Program}
use Rattle.reach_table.specs.Chains.{Chain, empty, longer}
use Rattle.bound_facts.specs.Calls.{Reaches, calls, count_procedures, initialized, line_calls, node_calls, pair_to}
use Rattle.bound_facts.specs.Items.{items_from}
use Rattle.bound_facts.specs.Leading.{is_within, within}
use Rattle.bound_facts.specs.Node.{called, type_at}
use Rattle.bound_facts.specs.Nodes.{nodes}
use Rattle.bound_facts.specs.Parts.{line_uses}
use Rattle.bound_facts.specs.Bounds.{declared_ranks, rank_items, ranks}
use Rattle.run_base.specs.Machines.{nth_line}
use Rattle.vb6_run.specs.Runnables.{Runnable}
use Rattle.run_matches.specs.CoveredVariables.{has_extents, has_rank}
use Rattle.run_matches.specs.Covered.{covers_callee, covers_calls, covers_method, covers_node, covers_use_of, is_method, suits, hands}
use Rattle.run_matches.specs.Sites.{Site, site_of}
use Rattle.run_matches.specs.CoveredLines.{covers_form}
use Rattle.run_matches.specs.Formed.{is_formed}
use Rattle.typing_laws.specs.Flat.{flat_uses, is_no_with, has_field_type, is_flat_line}
use Rattle.typing_laws.specs.Calls.{CallsAreSuited, Each, IsReady, IsSuited}
use Rattle.typing_laws.proofs.Places.{not_none, some_is}

-- ---- items

abbrev pub Among : {X : Type 0} → List X → X → Type 0
Among [] x = ⊥
Among (y ∷ ys) x = (y ≡ x) ⊎ Among ys x

contains : {X : Type 0} (xs : List X) (x : X) → Among xs x → Contains xs x
contains [] x h = absurd h
contains (y ∷ ys) x (inl e) = (0, omega arith, e)
contains (y ∷ ys) x (inr h) = let c = contains ys x h in (suc c.0, (let l = c.1 in omega arith), c.2)

among_at : {X : Type 0} (xs : List X) (i : ℕ) (x : X) → slice_get xs i ≡ Some x → Among xs x
among_at [] i x e = absurd (not_none e)
among_at (y ∷ ys) zero x e = inl (some_is e)
among_at (y ∷ ys) (suc i) x e = inr (among_at ys i x e)

among_left : {X : Type 0} (xs ys : List X) (x : X) → Among xs x → Among (xs ++ ys) x
among_left [] ys x h = absurd h
among_left (z ∷ zs) ys x (inl e) = inl e
among_left (z ∷ zs) ys x (inr h) = inr (among_left zs ys x h)

among_right : {X : Type 0} (xs ys : List X) (x : X) → Among ys x → Among (xs ++ ys) x
among_right [] ys x h = h
among_right (z ∷ zs) ys x h = inr (among_right zs ys x h)

flat_among : {X Y : Type 0} (f : X → List Y) (xs : List X) (x : X) (y : Y) → Among xs x → Among (f x) y → Among (flat_map f xs) y
flat_among f [] x y m h = absurd m
flat_among f (z ∷ zs) x y (inl e) h = among_left (f z) (flat_map f zs) y (subst (λ u. Among (f u) y) (sym e) h)
flat_among f (z ∷ zs) x y (inr m) h = among_right (f z) (flat_map f zs) y (flat_among f zs x y m h)

filter_among : {X : Type 0} (f : X → Bool) (xs : List X) (x : X) → f x ≡ true → Among xs x → Among (filter f xs) x
filter_among f [] x h m = absurd m
filter_among f (y ∷ ys) x h m = by (f y) refl m (λ n. filter_among f ys x h n)
  where
    by : (b : Bool) → f y ≡ b → Among (y ∷ ys) x → (Among ys x → Among (filter f ys) x) → Among (cond b (y ∷ filter f ys) (filter f ys)) x
    by true e (inl s) rest = inl s
    by true e (inr n) rest = inr (rest n)
    by false e (inl s) rest = absurd (true≢false (sym h ∙ sym (ap f s) ∙ e))
    by false e (inr n) rest = rest n

no_more : (i : ℕ) → i ≡ i + 0
no_more i = omega arith

one_more : (i p : ℕ) → i + suc p ≡ (i + 1) + p
one_more i p = omega arith

items_among : {X : Type 0} (items : ℕ → Line → List X) (i p k : ℕ) (bodies : List (List Line)) (lines : List Line) (l : Line) (y : X)
    → slice_get bodies p ≡ Some lines → slice_get lines k ≡ Some l → Among (items (i + p) l) y → Among (items_from items i bodies) y
items_among items i p k [] lines l y e at h = absurd (not_none e)
items_among items i zero k (b ∷ bodies) lines l y e at h =
    let same : b ≡ lines = some_is e in
    among_left (flat_map (items i) b) (items_from items (i + 1) bodies) y
    (flat_among (items i) b l y (subst (λ ls. Among ls l) (sym same) (among_at lines k l at)) (subst (λ j. Among (items j l) y) (sym (no_more i)) h))
items_among items i (suc p) k (b ∷ bodies) lines l y e at h =
    among_right (flat_map (items i) b) (items_from items (i + 1) bodies) y
    (items_among items (i + 1) p k bodies lines l y e at (subst (λ j. Among (items j l) y) (one_more i p) h))

none_more : (p : ℕ) → p ≡ 0 + p
none_more p = omega arith

-- ---- chains

chain_then : (pairs : List (ℕ × ℕ)) (a b c : ℕ) → Chain pairs a b → Chain pairs b c → Chain pairs a c
chain_then pairs a _ _ x (empty b) = x
chain_then pairs a b _ x (longer _ d c y h) = longer a d c (chain_then pairs a b d x y) h

pub index_less : {A : Type 0} (xs : List A) (p : ℕ) (x : A) → slice_get xs p ≡ Some x → p < length xs
index_less [] p x e = absurd (not_none e)
index_less (y ∷ ys) zero x e = omega arith
index_less (y ∷ ys) (suc p) x e = let l = index_less ys p x e in omega (arith, l)

index_within : {A : Type 0} (xs : List A) (p : ℕ) (x : A) → slice_get xs p ≡ Some x → nat_lt p (length xs) ≡ true
index_within xs p x e = lt-ltb p (length xs) (index_less xs p x e)

-- what a call that is a node of a line reaches
module _ (R : Runnable) (p q k : ℕ) (x : Procedure) (is : slice_get R.program.declarations.procs p ≡ Some x)
    (known : nat_lt q (count_procedures R.program) ≡ true) (lines : List Line) (l : Line) (are_lines : slice_get R.program.bodies p ≡ Some lines)
    (stands : slice_get lines k ≡ Some l) (call : Among (line_calls R.program.declarations p l) (p, q)) where
  call_within : Among (within (count_procedures R.program) (calls R.program)) (p, q)
  call_within =
      filter_among (is_within (count_procedures R.program)) (calls R.program) (p, q)
      (and_true (nat_lt p (count_procedures R.program)) (nat_lt q (count_procedures R.program)) (index_within R.program.declarations.procs p x is) known)
      (items_among (line_calls R.program.declarations) 0 p k R.program.bodies lines l (p, q) are_lines stands
      (subst (λ j. Among (line_calls R.program.declarations j l) (p, q)) (none_more p) call))

  reaches_called : Reaches R.program p q
  reaches_called = longer p p q (empty p) (contains (within (count_procedures R.program) (calls R.program)) (p, q) call_within)

  pub ready_called : IsReady R p → IsReady R q
  ready_called h = record {
    covered = λ r c. h.covered r (chain_then _ p q r reaches_called c);
    flat = λ r c. h.flat r (chain_then _ p q r reaches_called c);
    typed = λ r c. h.typed r (chain_then _ p q r reaches_called c);
    results = λ r c. h.results r (chain_then _ p q r reaches_called c);
    loud = λ r c. h.loud r (chain_then _ p q r reaches_called c);
  }

-- ---- each node

each_left : {A : Type 0} (Q : A → Type 0) (xs ys : List A) → Each Q (xs ++ ys) → Each Q xs
each_left Q [] ys h = tt
each_left Q (x ∷ xs) ys h = (h.0, each_left Q xs ys h.1)

each_right : {A : Type 0} (Q : A → Type 0) (xs ys : List A) → Each Q (xs ++ ys) → Each Q ys
each_right Q [] ys h = h
each_right Q (x ∷ xs) ys h = each_right Q xs ys h.1

pub both_each : {A : Type 0} (Q : A → Type 0) (xs ys : List A) → Each Q (xs ++ ys) → Each Q xs × Each Q ys
both_each Q xs ys h = (each_left Q xs ys h, each_right Q xs ys h)

each_of : {A : Type 0} (Q : A → Type 0) (xs : List A) → ((x : A) → Among xs x → Q x) → Each Q xs
each_of Q [] h = tt
each_of Q (x ∷ xs) h = (h x (inl refl), each_of Q xs (λ y m. h y (inr m)))

pub all_among : {A : Type 0} (f : A → Bool) (xs : List A) (x : A) → list_all f xs ≡ true → Among xs x → f x ≡ true
all_among f [] x h m = absurd m
all_among f (y ∷ ys) x h (inl e) = ap f (sym e) ∙ (both_true (f y) (list_all f ys) h).0
all_among f (y ∷ ys) x h (inr m) = all_among f ys x (both_true (f y) (list_all f ys) h).1 m

-- ---- the calls of a line

first_pair : (p q : ℕ) (o : Option ℕ) (more : List (ℕ × ℕ)) → o ≡ Some q → Among (pair_to p o more) (p, q)
first_pair p q None more e = absurd (not_none e)
first_pair p q (Some r) more e = inl (ap {B = ℕ × ℕ} (λ (n : ℕ). (p, n)) (some_is e))

callee_known : (P : Program) (p : ℕ) (s : Option Site) (q : ℕ) (qualified : Bool) → covers_callee P p s q qualified ≡ true → nat_lt q (count_procedures P) ≡ true
callee_known P p None q qualified h = absurd (true≢false (sym h))
callee_known P p (Some s) q qualified h = (both_true (nat_lt q (count_procedures P)) _ h).0

-- what a node calls is a procedure of the project
node_known : (P : Program) (p : ℕ) (s : Option Site) (q : ℕ) (e : Expr) → covers_node P p s e ≡ true → called e ≡ Some q → nat_lt q (count_procedures P) ≡ true
node_known P p s q (typed ty (call f qualified no_object args)) h n =
    let a = both_true (covers_callee P p s f.0 qualified) (covers_use_of P.declarations p f.0 qualified no_object args) h in
    subst (λ k. nat_lt k (count_procedures P) ≡ true) (some_is n) (callee_known P p s f.0 qualified a.0)
node_known P p s q (typed ty (call f qualified (of_object e) args)) h n =
    let a = both_true (covers_method P e f.0) (covers_use_of P.declarations p f.0 qualified (of_object e) args) h in
    subst (λ k. nat_lt k (count_procedures P) ≡ true) (some_is n)
    (both_true (nat_lt f.0 (count_procedures P)) (is_method P.declarations (type_at e) f.0) a.0).0
node_known P p s q (typed ty _) h n = absurd (not_none n)

pub line_suited : (R : Runnable) (p k : ℕ) (x : Procedure) (lines : List Line) (l : Line) → slice_get R.program.declarations.procs p ≡ Some x
    → slice_get R.program.bodies p ≡ Some lines → slice_get lines k ≡ Some l → covers_calls R.program p l ≡ true
    → is_flat_line R.program p l ≡ true → IsReady R p → Each (IsSuited R) (line_uses l)
line_suited R p k x lines l is are_lines stands covers flat ready =
    let D : Declarations = R.program.declarations in
    let P : Program = R.program in
    let b = both_true (list_all (covers_node P p (site_of D p)) (line_uses l)) (list_all (suits D) (line_uses l) && list_all (hands P) (line_uses l)) covers in
    let c = both_true (list_all (suits D) (line_uses l)) (list_all (hands P) (line_uses l)) b.1 in
    let form = covers_form (flat_uses P p l.bindings.mentions) l.source.form l.bindings.exprs in
    let fields = list_all (has_field_type D) (line_uses l) in
    let f = both_true form (list_all is_formed l.bindings.exprs && (is_no_with l.source.form && fields)) flat in
    let g = both_true (list_all is_formed l.bindings.exprs) (is_no_with l.source.form && fields) f.1 in
    each_of (IsSuited R) (line_uses l) (λ e m. record {
      field = all_among (has_field_type D) (line_uses l) e (both_true (is_no_with l.source.form) fields g.1).1 m;
      suits = all_among (suits D) (line_uses l) e c.0 m;
      ready = λ q n.
          let call : Among (line_calls D p l) (p, q) =
          flat_among (node_calls D p) (line_uses l) e (p, q) m (first_pair p q (called e) (pair_to p (initialized D e) []) n) in
          ready_called R p q k x is (node_known P p (site_of D p) q e (all_among (covers_node P p (site_of D p)) (line_uses l) e b.0 m) n)
          lines l are_lines stands call ready;
    })

-- of a line that is no Set, each expression is suited
pub exprs_suited : (R : Runnable) (es : List Expr) → Each (IsSuited R) (flat_map nodes es) → Each (CallsAreSuited R) es
exprs_suited R [] h = tt
exprs_suited R (e ∷ es) h =
    let b = both_each (IsSuited R) (nodes e) (flat_map nodes es) h in
    (b.0, exprs_suited R es b.1)

-- each ReDim of a line gives its arrays a bound
pub line_ranks : (P : Program) (p n : ℕ) (lines : List Line) (l : Line) → slice_get P.bodies p ≡ Some lines → nth_line lines n ≡ Some l → has_extents P ≡ true
    → list_all has_rank (rank_items P.declarations p l) ≡ true
line_ranks P p zero lines l are_lines stands h = absurd (not_none stands)
line_ranks P p (suc k) lines l are_lines stands h =
    all_of has_rank (rank_items P.declarations p l)
    (λ y m. all_among has_rank (ranks P) y h
    (among_right (declared_ranks 0 P.declarations.vars) (items_from (rank_items P.declarations) 0 P.bodies) y
    (items_among (rank_items P.declarations) 0 p k P.bodies lines l y are_lines stands (subst (λ j. Among (rank_items P.declarations j l) y) (none_more p) m))))
  where
    all_of : {A : Type 0} (f : A → Bool) (xs : List A) → ((x : A) → Among xs x → f x ≡ true) → list_all f xs ≡ true
    all_of f [] g = refl
    all_of f (x ∷ xs) g = and_true (f x) (list_all f xs) (g x (inl refl)) (all_of f xs (λ y m. g y (inr m)))
