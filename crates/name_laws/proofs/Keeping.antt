-- A procedure that is seen to keep the arrays of elements of a type does so.
use Rattle.std.proofs.Common.{◌≡◌, refl, ℕ, ◌+◌, Bool, true, false, cond, not, ◌||◌, nat_eq, List, [], ◌∷◌, ◌++◌, ◌⊎◌, inl, inr, ⊎_elim}
use Rattle.std.specs.Prelude.{nat_lt}
use Rattle.std.specs.List.{flat_map, list_any}
use Rattle.vb_tree.specs.BoundTree.{Ty, user, array}
use Rattle.bound_facts.proofs.Chains.{both_true}
use Rattle.bound_facts.specs.Calls.{calls, count_procedures}
use Rattle.bound_facts.specs.Effects.{resized_stores}
use Rattle.bound_facts.specs.Items.{items_from}
use Rattle.bound_facts.specs.Leading.{is_in, within}
use Rattle.bound_facts.specs.Locks.{Keeps, is_locking_line, lock_items, lockers, makes_anew}
use Rattle.bound_facts.specs.Node.{type_at}
use Rattle.bound_tree.specs.Tree.{Expr, Line, Program}
use Rattle.run_matches.specs.Inward.{grown, is_closed}
use Rattle.run_matches.specs.Keeping.{all_types, keeps_seen}
use Rattle.name_laws.proofs.Inward.{back, in_grown, not_in}

-- ---- a line that locks by some user types does so by all

anew_by_all : (holds : ℕ → Bool) (e ty : Ty) → makes_anew holds e ty ≡ true → makes_anew all_types e ty ≡ true
anew_by_all holds e (array x rank) h = h
anew_by_all holds e (user t) h = refl
anew_by_all holds e _ h = h

first_of_two : (a b : Bool) → a ≡ true → (a || b) ≡ true
first_of_two true b h = refl
first_of_two false b h = absurd (cc h)

second_of_two : (a b : Bool) → b ≡ true → (a || b) ≡ true
second_of_two true b h = refl
second_of_two false b h = h

one_of : (a b : Bool) → (a || b) ≡ true → (a ≡ true) ⊎ (b ≡ true)
one_of true b h = inl refl
one_of false b h = inr h

any_by_all : (holds : ℕ → Bool) (e : Ty) (es : List Expr) → list_any (λ x. makes_anew holds e (type_at x)) es ≡ true
    → list_any (λ x. makes_anew all_types e (type_at x)) es ≡ true
any_by_all holds e [] h = h
any_by_all holds e (x ∷ es) h =
    ⊎_elim
    (λ a. first_of_two (makes_anew all_types e (type_at x)) (list_any (λ y. makes_anew all_types e (type_at y)) es) (anew_by_all holds e (type_at x) a))
    (λ b. second_of_two (makes_anew all_types e (type_at x)) (list_any (λ y. makes_anew all_types e (type_at y)) es) (any_by_all holds e es b))
    (one_of (makes_anew holds e (type_at x)) (list_any (λ y. makes_anew holds e (type_at y)) es) h)

line_by_all : (holds : ℕ → Bool) (e : Ty) (l : Line) → is_locking_line holds e l ≡ true → is_locking_line all_types e l ≡ true
line_by_all holds e l h = any_by_all holds e (resized_stores l.source.form l.bindings.exprs) h

-- ---- procedures

in_append : (xs ys : List ℕ) (q : ℕ) → is_in (xs ++ ys) q ≡ true → (is_in xs q ≡ true) ⊎ (is_in ys q ≡ true)
in_append [] ys q h = inr h
in_append (x ∷ xs) ys q h =
    ⊎_elim (λ a. inl (first_of_two (nat_eq q x) (is_in xs q) a))
    (λ b. ⊎_elim (λ c. inl (second_of_two (nat_eq q x) (is_in xs q) c)) (λ d. inr d) (in_append xs ys q b))
    (one_of (nat_eq q x) (is_in (xs ++ ys) q) h)

in_left : (xs ys : List ℕ) (q : ℕ) → is_in xs q ≡ true → is_in (xs ++ ys) q ≡ true
in_left [] ys q h = absurd (cc h)
in_left (x ∷ xs) ys q h =
    ⊎_elim (λ a. first_of_two (nat_eq q x) (is_in (xs ++ ys) q) a) (λ b. second_of_two (nat_eq q x) (is_in (xs ++ ys) q) (in_left xs ys q b))
    (one_of (nat_eq q x) (is_in xs q) h)

in_right : (xs ys : List ℕ) (q : ℕ) → is_in ys q ≡ true → is_in (xs ++ ys) q ≡ true
in_right [] ys q h = h
in_right (x ∷ xs) ys q h = second_of_two (nat_eq q x) (is_in (xs ++ ys) q) (in_right xs ys q h)

in_one : (b c : Bool) (i q : ℕ) → (b ≡ true → c ≡ true) → is_in (cond b (i ∷ []) []) q ≡ true → is_in (cond c (i ∷ []) []) q ≡ true
in_one true true i q f h = h
in_one true false i q f h = absurd (cc (f refl))
in_one false c i q f h = absurd (cc h)

lines_by_all : (holds : ℕ → Bool) (e : Ty) (i q : ℕ) (ls : List Line) → is_in (flat_map (lock_items holds e i) ls) q ≡ true
    → is_in (flat_map (lock_items all_types e i) ls) q ≡ true
lines_by_all holds e i q [] h = h
lines_by_all holds e i q (l ∷ ls) h =
    ⊎_elim
    (λ a. in_left (lock_items all_types e i l) (flat_map (lock_items all_types e i) ls) q
    (in_one (is_locking_line holds e l) (is_locking_line all_types e l) i q (line_by_all holds e l) a))
    (λ b. in_right (lock_items all_types e i l) (flat_map (lock_items all_types e i) ls) q (lines_by_all holds e i q ls b))
    (in_append (lock_items holds e i l) (flat_map (lock_items holds e i) ls) q h)

bodies_by_all : (holds : ℕ → Bool) (e : Ty) (i q : ℕ) (bs : List (List Line)) → is_in (items_from (lock_items holds e) i bs) q ≡ true
    → is_in (items_from (lock_items all_types e) i bs) q ≡ true
bodies_by_all holds e i q [] h = h
bodies_by_all holds e i q (ls ∷ bs) h =
    ⊎_elim
    (λ a. in_left (flat_map (lock_items all_types e i) ls) (items_from (lock_items all_types e) (i + 1) bs) q (lines_by_all holds e i q ls a))
    (λ b. in_right (flat_map (lock_items all_types e i) ls) (items_from (lock_items all_types e) (i + 1) bs) q (bodies_by_all holds e (i + 1) q bs b))
    (in_append (flat_map (lock_items holds e i) ls) (items_from (lock_items holds e) (i + 1) bs) q h)

pub seen_to_keep : (P : Program) (q : ℕ) (e : Ty) → keeps_seen P q e ≡ true → Keeps P q e
seen_to_keep P q e h locks =
    let pairs = within (count_procedures P) (calls P) in
    let list = grown (count_procedures P) pairs (lockers P all_types e) in
    let both = both_true (is_closed pairs list) (not (is_in list q)) h in
    let to = locks.reaches.0 in
    let is = (both_true (nat_lt to (count_procedures P)) (is_in (lockers P locks.holds e) to) locks.reaches.1).1 in
    let there = in_grown (count_procedures P) pairs (lockers P all_types e) to (bodies_by_all locks.holds e 0 to P.bodies is) in
    not_in (is_in list q) both.1 (back pairs list both.0 q to locks.reaches.2 there)
