-- Which procedures give arrays of elements of a type other elements: the same for the same types, and by flags that are right.
use mathlib.Core.Path.{fun_ext}
use Rattle.std.proofs.Common.{◌≡◌, ℕ, zero, suc, ◌<◌, Bool, true, false, cond, List, [], ◌∷◌, ◌++◌, length, map, refl, ap, sym, subst, ◌∙◌, arith, ◌+◌, get_or, take}
use Rattle.std.specs.Prelude.{IsTrue, ◌↔◌, ◌||◌, ◌&&◌, filter}
use Rattle.std.specs.List.{Contains, list_all, list_any}
use Rattle.std.proofs.lemmas.Bool.{eqb-true}
use Rattle.std.proofs.lemmas.List.{map-append, take_more}
use Rattle.std.proofs.lemmas.List.Folds.{list_any-append}
use Rattle.vb_tree.specs.BoundTree.{Ty, boolean, byte, integer, long, currency, str, fixed, user, class, object, variant, array, nothing, unknown}
use Rattle.vb_tree.specs.BoundView.{type_of}
use Rattle.reach_table.specs.Chains.{is_marked}
use Rattle.bound_tree.specs.Tree.{Line, Declarations, Program}
use Rattle.bound_facts.specs.Calls.{calls, count_procedures}
use Rattle.bound_facts.specs.Effects.{resized_stores}
use Rattle.bound_facts.specs.Items.{project_items}
use Rattle.bound_facts.specs.Leading.{LeadsTo, is_within, within}
use Rattle.bound_facts.specs.Locks.{HoldsArray, Locks, holders_from, is_array_of, is_same_type, lockers, makes_anew, type_pairs}
use Rattle.bound_facts.specs.Node.{type_at}
use Rattle.bound_facts.proofs.Chains.{Chain-among, both_true}
use Rattle.array_bounds.specs.declared.locks.Lock.{Lock}
use Rattle.array_bounds.specs.Facts.{LocksBy}
use Rattle.array_bounds.specs.LockTables.{AreRight, IsRight, flags_in, has_type, is_lock_of, locks_in}
use Rattle.array_bounds.specs.Types.{those_from}
use Rattle.array_bounds.proofs.Dimensions.{same_number}
use Rattle.array_bounds.proofs.Holders.{holders_are}

-- ---- the same types

pub same_itself : (a : Ty) → is_same_type a a ≡ true
same_itself boolean = refl
same_itself byte = refl
same_itself integer = refl
same_itself long = refl
same_itself currency = refl
same_itself str = refl
same_itself (fixed n) = same_number n
same_itself (user n) = same_number n
same_itself (class n) = same_number n
same_itself object = refl
same_itself variant = refl
same_itself (array x rank) = same_itself x
same_itself nothing = refl
same_itself unknown = refl

same_right : (a b : Ty) → is_same_type a b ≡ true → (x : Ty) → is_same_type a x ≡ is_same_type b x
same_right boolean boolean h x = refl
same_right byte byte h x = refl
same_right integer integer h x = refl
same_right long long h x = refl
same_right currency currency h x = refl
same_right str str h x = refl
same_right (fixed m) (fixed n) h x = ap (λ k. is_same_type (fixed k) x) (eqb-true m n h)
same_right (user m) (user n) h x = ap (λ k. is_same_type (user k) x) (eqb-true m n h)
same_right (class m) (class n) h x = ap (λ k. is_same_type (class k) x) (eqb-true m n h)
same_right object object h x = refl
same_right variant variant h x = refl
same_right (array a m) (array b n) h (array x k) = same_right a b h x
same_right (array a m) (array b n) h _ = refl
same_right nothing nothing h x = refl
same_right unknown unknown h x = refl
same_right _ _ h x = absurd (cc h)

same_turned : (a b : Ty) → is_same_type a b ≡ true → is_same_type b a ≡ true
same_turned a b h = sym (same_right a b h a) ∙ same_itself a

same_arrays : (a b : Ty) → is_same_type a b ≡ true → (x : Ty) → is_array_of a x ≡ is_array_of b x
same_arrays a b h (array x m) = same_right a b h x
same_arrays a b h _ = refl

same_holders : (D : Declarations) (a b : Ty) → is_same_type a b ≡ true → holders_from D a 0 D.types ≡ holders_from D b 0 D.types
same_holders D a b h =
    let same : is_array_of a ≡ is_array_of b = fun_ext (same_arrays a b h) in
    holders_are D a 0 D.types ∙ ap (λ (test : Ty → Bool). those_from D.vars test 0 D.types) same ∙ sym (holders_are D b 0 D.types)

same_made : (holds : ℕ → Bool) (a b : Ty) → is_same_type a b ≡ true → (x : Ty) → makes_anew holds a x ≡ makes_anew holds b x
same_made holds a b h (array x m) = same_right a b h x
same_made holds a b h (user t) = refl
same_made holds a b h _ = refl

-- the procedures with a line that makes anew what passes
abbrev makers : Program → (Ty → Bool) → List ℕ
makers P made = project_items (λ i (l : Line). cond (list_any (λ x. made (type_at x)) (resized_stores l.source.form l.bindings.exprs)) (i ∷ []) []) P.bodies

same_lockers : (P : Program) (holds : ℕ → Bool) (a b : Ty) → is_same_type a b ≡ true → lockers P holds a ≡ lockers P holds b
same_lockers P holds a b h = let same : makes_anew holds a ≡ makes_anew holds b = fun_ext (same_made holds a b h) in ap (makers P) same

same_locks : (P : Program) (pairs : List (ℕ × ℕ)) (a b : Ty) (p : ℕ) → is_same_type a b ≡ true → LocksBy P pairs a p → LocksBy P pairs b p
same_locks P pairs a b p h k = record {
  holds = k.holds;
  are_held = λ t. (
    (λ e. subst (λ (list : List ℕ). LeadsTo (length P.declarations.types) (type_pairs P.declarations) list t) (same_holders P.declarations a b h) ((k.are_held t).0 e)),
    (λ e. (k.are_held t).1 (subst (λ (list : List ℕ). LeadsTo (length P.declarations.types) (type_pairs P.declarations) list t) (sym (same_holders P.declarations a b h)) e)),
  );
  reaches = subst (λ (list : List ℕ). LeadsTo (count_procedures P) pairs list p) (same_lockers P k.holds a b h) k.reaches;
}

-- ---- flags of types

found_one : (P : Program) (pairs : List (ℕ × ℕ)) (k : Lock) (ks : List Lock) (ty : Ty) (p : ℕ) (t : Bool) → is_lock_of ty k ≡ t → IsRight P pairs k
    → (has_type ks ty ≡ true → IsTrue (locks_in ks ty p) ↔ LocksBy P pairs ty p) → (t || has_type ks ty) ≡ true
    → IsTrue (is_marked (cond t k.flags.items (flags_in ks ty)) p) ↔ LocksBy P pairs ty p
found_one P pairs k ks ty p true is right more h = (
  (λ e. same_locks P pairs (type_of k.ty.now) ty p (same_turned ty (type_of k.ty.now) is) ((right p).0 e)),
  (λ l. (right p).1 (same_locks P pairs ty (type_of k.ty.now) p is l)),
)
found_one P pairs k ks ty p false is right more h = more h

pub found_right : (P : Program) (pairs : List (ℕ × ℕ)) (ks : List Lock) (ty : Ty) (p : ℕ) → AreRight P pairs ks → has_type ks ty ≡ true → IsTrue (locks_in ks ty p) ↔ LocksBy P pairs ty p
found_right P pairs [] ty p right h = absurd (cc h)
found_right P pairs (k ∷ ks) ty p right h = found_one P pairs k ks ty p (is_lock_of ty k) refl right.0 (λ e. found_right P pairs ks ty p right.1 e) h

pub right_push : (P : Program) (pairs : List (ℕ × ℕ)) (ks : List Lock) (k : Lock) → AreRight P pairs ks → IsRight P pairs k → AreRight P pairs (ks ++ k ∷ [])
right_push P pairs [] k right one = (one, tt)
right_push P pairs (j ∷ ks) k right one = (right.0, right_push P pairs ks k right.1 one)

true_or : (b : Bool) → (true || b) ≡ true
true_or b = refl

or_true : (b : Bool) → (b || true) ≡ true
or_true true = refl
or_true false = refl

pub type_kept : (ks : List Lock) (k : Lock) (ty : Ty) → has_type ks ty ≡ true → has_type (ks ++ k ∷ []) ty ≡ true
type_kept ks k ty h = list_any-append (is_lock_of ty) ks (k ∷ []) ∙ ap (λ b. b || has_type (k ∷ []) ty) h

pub type_here : (ks : List Lock) (k : Lock) (ty : Ty) → is_same_type ty (type_of k.ty.now) ≡ true → has_type (ks ++ k ∷ []) ty ≡ true
type_here ks k ty h =
    list_any-append (is_lock_of ty) ks (k ∷ []) ∙ ap (λ b. has_type ks ty || (b || false)) h ∙ or_true (has_type ks ty)

-- ---- lists

pub all_kept : {X : Type 0} (p q : X → Bool) → ((x : X) → p x ≡ true → q x ≡ true) → (xs : List X) → list_all p xs ≡ true → list_all q xs ≡ true
all_kept p q up [] h = refl
all_kept p q up (x ∷ xs) h =
    let both = both_true (p x) (list_all p xs) h in
    ap (λ b. b && list_all q xs) (up x both.0) ∙ all_kept p q up xs both.1

pub all_in : {X : Type 0} (p : X → Bool) (xs : List X) → list_all p xs ≡ true → (x : X) → Contains xs x → p x ≡ true
all_in p [] h x (k, l, e) = absurd (omega arith)
all_in p (y ∷ ys) h x (zero, l, e) = ap p (sym e) ∙ (both_true (p y) (list_all p ys) h).0
all_in p (y ∷ ys) h x (suc k, l, e) = all_in p ys (both_true (p y) (list_all p ys) h).1 x (k, omega arith, e)

both_lists : {Y : Type 0} (p : Y → Bool) (ys : List Y) (y : Y) → list_all p ys ≡ true → p y ≡ true → list_all p (ys ++ y ∷ []) ≡ true
both_lists p [] y h one = ap (λ b. b && true) one
both_lists p (z ∷ zs) y h one =
    let both = both_true (p z) (list_all p zs) h in
    ap (λ b. b && list_all p (zs ++ y ∷ [])) both.0 ∙ both_lists p zs y both.1 one

-- ---- which user types hold such an array

pub same_test : {X : Type 0} (a b : Bool) → (IsTrue a → X) × (X → IsTrue a) → (IsTrue b → X) × (X → IsTrue b) → a ≡ b
same_test true true h k = refl
same_test false false h k = refl
same_test true false h k = absurd (let e = k.1 (h.0 refl) in cc e)
same_test false true h k = absurd (let e = h.1 (k.0 refl) in cc e)

pub locks_by : (P : Program) (pairs : List (ℕ × ℕ)) (ty : Ty) (p : ℕ) (flag : Bool) (holds : ℕ → Bool) → ((t : ℕ) → IsTrue (holds t) ↔ HoldsArray P.declarations ty t)
    → IsTrue flag ↔ LeadsTo (count_procedures P) pairs (lockers P holds ty) p → IsTrue flag ↔ LocksBy P pairs ty p
locks_by P pairs ty p flag holds held flags = (
  (λ h. record { holds = holds; are_held = held; reaches = flags.0 h }),
  (λ k.
      let same : k.holds ≡ holds = fun_ext (λ t. same_test (k.holds t) (holds t) (k.are_held t) (held t)) in
      flags.1 (subst (λ (test : ℕ → Bool). LeadsTo (count_procedures P) pairs (lockers P test ty) p) same k.reaches)),
)

-- ---- chains of the calls themselves

here : {X : Type 0} (x : X) (xs : List X) → Contains (x ∷ xs) x
here x xs = (0, omega arith, refl)

later : {X : Type 0} (x y : X) (xs : List X) → Contains xs y → Contains (x ∷ xs) y
later x y xs h = (suc h.0, (let l = h.1 in omega arith), h.2)

kept_one : {X : Type 0} (p : X → Bool) (y : X) (ys : List X) (x : X) (b : Bool) → p y ≡ b → (Contains (filter p ys) x → Contains ys x × (p x ≡ true)) → Contains (cond b (y ∷ filter p ys) (filter p ys)) x
    → Contains (y ∷ ys) x × (p x ≡ true)
kept_one p y ys x true e more (zero, l, is) = (subst (λ z. Contains (y ∷ ys) z) is (here y ys), ap p (sym is) ∙ e)
kept_one p y ys x true e more (suc k, l, is) = let rest = more (k, omega arith, is) in (later y x ys rest.0, rest.1)
kept_one p y ys x false e more h = let rest = more h in (later y x ys rest.0, rest.1)

of_filter : {X : Type 0} (p : X → Bool) (xs : List X) (x : X) → Contains (filter p xs) x → Contains xs x × (p x ≡ true)
of_filter p [] x h = absurd (let l = h.1 in omega arith)
of_filter p (y ∷ ys) x h = kept_one p y ys x (p y) refl (of_filter p ys x) h

put_one : {X : Type 0} (p : X → Bool) (y : X) (ys : List X) (x : X) (b : Bool) → p y ≡ b → p x ≡ true → (Contains ys x → Contains (filter p ys) x) → Contains (y ∷ ys) x → Contains (cond b (y ∷ filter p ys) (filter p ys)) x
put_one p y ys x true e passes more (zero, l, is) = subst (λ z. Contains (y ∷ filter p ys) z) is (here y (filter p ys))
put_one p y ys x true e passes more (suc k, l, is) = later y x (filter p ys) (more (k, omega arith, is))
put_one p y ys x false e passes more (zero, l, is) = absurd (let f : true ≡ false = sym passes ∙ ap p (sym is) ∙ e in cc f)
put_one p y ys x false e passes more (suc k, l, is) = more (k, omega arith, is)

to_filter : {X : Type 0} (p : X → Bool) (xs : List X) (x : X) → p x ≡ true → Contains xs x → Contains (filter p xs) x
to_filter p [] x passes h = absurd (let l = h.1 in omega arith)
to_filter p (y ∷ ys) x passes h = put_one p y ys x (p y) refl passes (to_filter p ys x passes) h

within_too : (n : ℕ) (ps qs : List (ℕ × ℕ)) → ((x : ℕ × ℕ) → Contains ps x → Contains qs x) → (a b : ℕ) → Contains (within n ps) (a, b) → Contains (within n qs) (a, b)
within_too n ps qs up a b h = let k = of_filter (is_within n) ps (a, b) h in to_filter (is_within n) qs (a, b) k.1 (up (a, b) k.0)

leads_too : (n : ℕ) (ps qs : List (ℕ × ℕ)) (list : List ℕ) (p : ℕ) → ((x : ℕ × ℕ) → Contains ps x → Contains qs x) → LeadsTo n ps list p → LeadsTo n qs list p
leads_too n ps qs list p up h = (h.0, h.1, Chain-among (within_too n ps qs up) h.2)

-- by pairs that are the calls of the project
pub locks_of_calls : (P : Program) (pairs : List (ℕ × ℕ)) (ty : Ty) (p : ℕ) → ((x : ℕ × ℕ) → Contains pairs x ↔ Contains (calls P) x) → LocksBy P pairs ty p ↔ Locks P ty p
locks_of_calls P pairs ty p same = (
  (λ k. record { holds = k.holds; are_held = k.are_held; reaches = leads_too (count_procedures P) pairs (calls P) (lockers P k.holds ty) p (λ x. (same x).0) k.reaches }),
  (λ k. record { holds = k.holds; are_held = k.are_held; reaches = leads_too (count_procedures P) (calls P) pairs (lockers P k.holds ty) p (λ x. (same x).1) k.reaches }),
)

-- one more item passes
pub all_more : {X Y : Type 0} (p : Y → Bool) (f : X → Y) (xs : List X) (i : ℕ) (x : X) → i < length xs → x ≡ get_or xs i x → list_all p (map f (take i xs)) ≡ true → p (f x) ≡ true
    → list_all p (map f (take (i + 1) xs)) ≡ true
all_more p f xs i x low is all one =
    ap (λ ys. list_all p (map f ys)) (take_more xs i x low) ∙ ap (list_all p) (map-append f (take i xs) (get_or xs i x ∷ [])) ∙ both_lists p (map f (take i xs)) (f (get_or xs i x)) all (ap (λ y. p (f y)) (sym is) ∙ one)
