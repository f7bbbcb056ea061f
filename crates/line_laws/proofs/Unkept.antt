-- A procedure doesn't keep the arrays of a type of which one of its lines makes one anew.
use Rattle.std.proofs.Common.{◌≡◌, ◌↔◌, ◌⊎◌, inl, inr, ⊎_elim, refl, sym, ap, subst, ◌∙◌, ℕ, zero, suc, ◌+◌, ◌<◌, Bool, true, false, cond, ◌&&◌, ◌||◌, nat_eq, Option, Some, None, List, [], ◌∷◌, ◌++◌, slice_get, length, true≢false, eqb-true, eq-eqb, ltb-true, ltb-false, lt-ltb, ◌≤◌, arith}
use Rattle.std.specs.Prelude.{IsTrue, nat_lt, filter, slice_index_or}
use Rattle.std.specs.List.{list_any, flat_map, Contains}
use Rattle.std.proofs.lemmas.Bool.{or_left, or_right}
use Rattle.up_base.proofs.Tests.{by_test, both_true, and_true}
use Rattle.vb_tree.specs.BoundTree as types
use Rattle.vb_tree.specs.BoundTree.{Ty}
use Rattle.bound_tree.specs.Tree.{Expr, Line, Declarations, Program}
use Rattle.bound_facts.specs.Calls.{count_procedures}
use Rattle.bound_facts.specs.Effects.{resized_stores}
use Rattle.bound_facts.specs.Items.{items_from}
use Rattle.bound_facts.specs.Leading.{is_in, is_within, within}
use Rattle.bound_facts.specs.Locks.{HoldsArray, Keeps, holders_from, is_locking_line, is_same_type, lock_items, lockers, makes_anew, type_pairs}
use Rattle.bound_facts.specs.Node.{type_at}
use Rattle.reach_table.specs.Chains.{Chain, empty, longer}
use Rattle.run_base.specs.Machines.{nth_line}
use Rattle.run_matches.specs.CleanLines.{lines_at, or_none}
use Rattle.run_matches.specs.CoveredVariables.{covers_type}

-- ---- lists

any_at : {X : Type 0} (test : X → Bool) (xs : List X) (x : X) (k : ℕ) → k < length xs → slice_index_or xs k x ≡ x → test x ≡ true → list_any test xs ≡ true
any_at test [] x k lt e h = absurd (omega arith)
any_at test (z ∷ zs) x zero lt e h = or_left (test z) (list_any test zs) (subst (λ a. test a ≡ true) (sym e) h)
any_at test (z ∷ zs) x (suc k) lt e h = or_right (test z) (list_any test zs) (any_at test zs x k (omega arith) e h)

any_left : {X : Type 0} (test : X → Bool) (xs ys : List X) → list_any test xs ≡ true → list_any test (xs ++ ys) ≡ true
any_left test [] ys h = absurd (true≢false (sym h))
any_left test (x ∷ xs) ys h =
    by_test (test x) (λ b. (b || list_any test xs) ≡ true → (b || list_any test (xs ++ ys)) ≡ true) (λ y e. refl) (λ y e. any_left test xs ys e) h

any_right : {X : Type 0} (test : X → Bool) (xs ys : List X) → list_any test ys ≡ true → list_any test (xs ++ ys) ≡ true
any_right test [] ys h = h
any_right test (x ∷ xs) ys h = or_right (test x) (list_any test (xs ++ ys)) (any_right test xs ys h)

any_flat : {X : Type 0} (test : ℕ → Bool) (f : X → List ℕ) (xs : List X) (x : X) (k : ℕ) → slice_get xs k ≡ Some x → list_any test (f x) ≡ true
    → list_any test (flat_map f xs) ≡ true
any_flat test f [] x k e h = absurd (cc e)
any_flat test f (z ∷ zs) x zero e h = any_left test (f z) (flat_map f zs) (subst (λ a. list_any test (f a) ≡ true) (sym (some_is z x e)) h)
  where
    some_is : {A : Type 0} (a b : A) → Some a ≡ Some b → a ≡ b
    some_is a b e = cc e
any_flat test f (z ∷ zs) x (suc k) e h = any_right test (f z) (flat_map f zs) (any_flat test f zs x k e h)

any_items : (test : ℕ → Bool) (items : ℕ → Line → List ℕ) (i : ℕ) (bodies : List (List Line)) (q : ℕ) (lines : List Line) → slice_get bodies q ≡ Some lines
    → list_any test (flat_map (items (i + q)) lines) ≡ true → list_any test (items_from items i bodies) ≡ true
any_items test items i [] q lines e h = absurd (cc e)
any_items test items i (ls ∷ rest) zero lines e h =
    let same : i + 0 ≡ i = omega arith in
    let is : ls ≡ lines = cc e in
    any_left test (flat_map (items i) ls) (items_from items (i + 1) rest)
    (subst (λ z. list_any test (flat_map (items i) z) ≡ true) (sym is) (subst (λ z. list_any test (flat_map (items z) lines) ≡ true) same h))
any_items test items i (ls ∷ rest) (suc q) lines e h =
    let same : i + suc q ≡ i + 1 + q = omega arith in
    any_right test (flat_map (items i) ls) (items_from items (i + 1) rest)
    (any_items test items (i + 1) rest q lines e (subst (λ z. list_any test (flat_map (items z) lines) ≡ true) same h))

filtered_here : {X : Type 0} (test : X → Bool) (z x : X) (zs : List X) (k : ℕ) → test z ≡ true → k < length (z ∷ zs) → slice_index_or (z ∷ zs) k x ≡ x
    → ((j : ℕ) → j < length zs → slice_index_or zs j x ≡ x → test x ≡ true) → test x ≡ true
filtered_here test z x zs zero t lt e more = subst (λ a. test a ≡ true) e t
filtered_here test z x zs (suc k) t lt e more = more k (omega arith) e

filtered : {X : Type 0} (test : X → Bool) (xs : List X) (x : X) (k : ℕ) → k < length (filter test xs) → slice_index_or (filter test xs) k x ≡ x → test x ≡ true
filtered test [] x k lt e = absurd (omega arith)
filtered test (z ∷ zs) x k lt e =
    by_test (test z)
    (λ b. test z ≡ b → k < length (cond b (z ∷ filter test zs) (filter test zs)) → slice_index_or (cond b (z ∷ filter test zs) (filter test zs)) k x ≡ x → test x ≡ true)
    (λ y t lt e. filtered_here test z x (filter test zs) k t lt e (λ j m f. filtered test zs x j m f)) (λ y t lt e. filtered test zs x k lt e) refl lt e

-- ---- which user types hold an array of a type

-- a chain that leads to a node begins at one
begins_below : (nodes : ℕ) (pairs : List (ℕ × ℕ)) (a c : ℕ) → Chain (within nodes pairs) a c → c < nodes → a < nodes
begins_below nodes pairs _ _ (empty a) lt = lt
begins_below nodes pairs _ _ (longer a b c chain m) lt =
    begins_below nodes pairs a b chain
    (ltb-true b nodes (both_true (nat_lt b nodes) (nat_lt c nodes) (filtered (is_within nodes) pairs (b, c) m.0 m.1 m.2)).0)

-- what decides a property below a number
abbrev Decides : (ℕ → Type 0) → ℕ → Type 0
Decides Q m = (f : ℕ → Bool) × ((t : ℕ) → t < m → IsTrue (f t) ↔ Q t)

either_way : (Q : Type 0) → ((Q ⊎ (Q → ⊥)) → ⊥) → ⊥
either_way Q k = k (inr (λ q. k (inl q)))

last_or_below : (t m : ℕ) → t < suc m → nat_eq t m ≡ false → t < m
last_or_below t m lt e = ⊎_elim (λ s. absurd (true≢false (sym (eq-eqb t m s) ∙ e))) (λ s. s) (split t m lt)
  where
    split : (t m : ℕ) → t < suc m → (t ≡ m) ⊎ (t < m)
    split t m lt = by_test (nat_lt t m) (λ b. (t ≡ m) ⊎ (t < m)) (λ y. inr (ltb-true t m y)) (λ y. inl (not_below t m lt y))
      where
        not_below : (t m : ℕ) → t < suc m → nat_lt t m ≡ false → t ≡ m
        not_below t m lt y = let le : m ≤ t = ltb-false t m y in omega arith

one_more : (Q : ℕ → Type 0) (m : ℕ) → Decides Q m → (b : Bool) → IsTrue b ↔ Q m → Decides Q (suc m)
one_more Q m d b is = (
  λ t. cond (nat_eq t m) b (d.0 t),
  λ t lt.
      by_test (nat_eq t m) (λ x. nat_eq t m ≡ x → IsTrue (cond x b (d.0 t)) ↔ Q t)
      (λ y e. subst (λ z. IsTrue b ↔ Q z) (sym (eqb-true t m e)) is) (λ y e. d.1 t (last_or_below t m lt e)) refl,
)

decided : (Q : ℕ → Type 0) (m : ℕ) → (Decides Q m → ⊥) → ⊥
decided Q zero k = k (λ t. false, λ t lt. absurd (omega arith))
decided Q (suc m) k =
    decided Q m (λ d. either_way (Q m)
    (λ q. ⊎_elim (λ y. k (one_more Q m d true (λ e. y, λ e. refl))) (λ y. k (one_more Q m d false (λ e. absurd (true≢false (sym e)), λ e. absurd (y e)))) q))

holds_below : (D : Declarations) (e : Ty) (t : ℕ) → HoldsArray D e t → t < length D.types
holds_below D e t h =
    begins_below (length D.types) (type_pairs D) t h.0 h.2
    (ltb-true h.0 (length D.types) (both_true (nat_lt h.0 (length D.types)) (is_in (holders_from D e 0 D.types) h.0) h.1).0)

abbrev Flags : Declarations → Ty → Type 0
Flags D e = (holds : ℕ → Bool) × ((t : ℕ) → IsTrue (holds t) ↔ HoldsArray D e t)

flags_of : (D : Declarations) (e : Ty) → Decides (HoldsArray D e) (length D.types) → Flags D e
flags_of D e d = (
  λ t. nat_lt t (length D.types) && d.0 t,
  λ t. (
    λ x. let both : (nat_lt t (length D.types) ≡ true) × (d.0 t ≡ true) = both_true (nat_lt t (length D.types)) (d.0 t) x in
        (d.1 t (ltb-true t (length D.types) both.0)).0 both.1,
    λ x. and_true (nat_lt t (length D.types)) (d.0 t) (lt-ltb t (length D.types) (holds_below D e t x)) ((d.1 t (holds_below D e t x)).1 x),
  ),
)

-- ---- lines

same_itself : (a : Ty) → covers_type a ≡ true → is_same_type a a ≡ true
same_itself types.boolean c = refl
same_itself types.byte c = refl
same_itself types.integer c = refl
same_itself types.long c = refl
same_itself types.currency c = refl
same_itself types.str c = refl
same_itself _ c = absurd (true≢false (sym c))

-- the line of a number
line_of_number : (lines : List Line) (k : ℕ) (l : Line) → nth_line lines k ≡ Some l → (j : ℕ) × (slice_get lines j ≡ Some l)
line_of_number lines zero l e = absurd (cc e)
line_of_number lines (suc k) l e = (k, e)

module _ (P : Program) (p k : ℕ) (l : Line) (is_procedure : nat_lt p (count_procedures P) ≡ true) (there : nth_line (lines_at P p) k ≡ Some l) (e : Expr)
    (stores : Contains (resized_stores l.source.form l.bindings.exprs) e) (element : Ty) (rank : ℕ) (is : type_at e ≡ types.array element rank)
    (covers : covers_type element ≡ true) where
  locking : (holds : ℕ → Bool) → is_locking_line holds element l ≡ true
  locking holds =
      any_at (λ x. makes_anew holds element (type_at x)) (resized_stores l.source.form l.bindings.exprs) e stores.0 stores.1 stores.2
      (ap (makes_anew holds element) is ∙ same_itself element covers)

  locks_here : (holds : ℕ → Bool) → is_in (lockers P holds element) p ≡ true
  locks_here holds = by (slice_get P.bodies p) refl there
    where
      by : (o : Option (List Line)) → slice_get P.bodies p ≡ o → nth_line (or_none o) k ≡ Some l → is_in (lockers P holds element) p ≡ true
      by None f g = absurd (no_line k g)
        where
          no_line : (k : ℕ) → nth_line [] k ≡ Some l → ⊥
          no_line zero g = cc g
          no_line (suc k) g = cc g
      by (Some lines) f g =
          let at : (j : ℕ) × (slice_get lines j ≡ Some l) = line_of_number lines k l g in
          let same : 0 + p ≡ p = omega arith in
          any_items (nat_eq p) (lock_items holds element) 0 P.bodies p lines f
          (any_flat (nat_eq p) (lock_items holds element (0 + p)) lines l at.0 at.1
          (subst (λ b. list_any (nat_eq p) (cond b ((0 + p) ∷ []) []) ≡ true) (sym (locking holds))
          (or_left (nat_eq p (0 + p)) false (eq-eqb p (0 + p) (sym same)))))

  pub resizing_not_kept : Keeps P p element → ⊥
  resizing_not_kept keeps =
      decided (HoldsArray P.declarations element) (length P.declarations.types)
      (λ d. let flags : Flags P.declarations element = flags_of P.declarations element d in
      keeps (record {
        holds = flags.0;
        are_held = flags.1;
        reaches = (p, and_true (nat_lt p (count_procedures P)) (is_in (lockers P flags.0 element) p) is_procedure (locks_here flags.0), empty p);
      }))
