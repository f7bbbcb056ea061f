-- Two parts that are like a third one are like each other, so two that differ are told by the first part of their property.
use Rattle.std.proofs.Common.{◌≡◌, ℕ, Bool, true, false, ◌&&◌, ◌||◌, nat_eq, List, [], ◌∷◌, length, Some, None, refl, ap, sym, subst, ◌∙◌, arith}
use Rattle.std.specs.Prelude.{not, slice_get}
use Rattle.std.specs.List.{list_all, list_any, zip}
use Rattle.std.proofs.lemmas.Bool.{and_parts, and_from, eqb-true}
use Rattle.std.proofs.lemmas.Bool.Decides.{nat_tests}
use Rattle.up_base.specs.Names.{is_same_name, lower_case}
use Rattle.std.specs.Cmp.Lexicographic.{pointwise, same_text}
use Rattle.vb_tree.specs.BoundTree.{Ty, boolean, byte, integer, long, currency, str, fixed, user, class, object, variant, array, nothing, unknown}
use Rattle.vb_tree.specs.declared.declared.VarId.{VarId}
use Rattle.vb_tree.specs.declared.form_parts.Visibility.{Visibility}
use Rattle.vb_tree.specs.declared.form_parts.Visibility.TheVariants as word
use Rattle.bound_tree.specs.Tree.{Variable, Procedure, Declarations}
use Rattle.bound_facts.specs.Locks.{is_same_type}
use Rattle.object_rules.specs.Properties.{are_alike, are_same_indexes, breaks_with, have_same_name, have_same_type, indexes_of, is_let, is_property, is_set, is_same_index, is_same_word, lacks_value, some_part, value_of, variable_at, are_same_values}

-- what is like one thing and like another
abbrev Agrees : {X : Type 0} → (X → X → Bool) → Type 0
Agrees {X} same = (a b c : X) → same a b ≡ true → same a c ≡ true → same b c ≡ true

-- ---- visibilities

word_is : (a b : Visibility) → is_same_word a b ≡ true → a ≡ b
word_is word.Public word.Public h = refl
word_is word.Private word.Private h = refl
word_is word.Friend word.Friend h = refl
word_is word.Global word.Global h = refl
word_is _ _ h = absurd (cc h)

words_agree : Agrees is_same_word
words_agree a b c h k = subst (λ (w : Visibility). is_same_word w c ≡ true) (word_is a b h) k

-- ---- types, without their ranks

abbrev plain : Ty → Ty
plain (array x rank) = array (plain x) 0
plain t = t

plain_is : (a b : Ty) → is_same_type a b ≡ true → plain a ≡ plain b
plain_is boolean boolean h = refl
plain_is byte byte h = refl
plain_is integer integer h = refl
plain_is long long h = refl
plain_is currency currency h = refl
plain_is str str h = refl
plain_is (fixed m) (fixed n) h = ap fixed (eqb-true m n h)
plain_is (user m) (user n) h = ap user (eqb-true m n h)
plain_is (class m) (class n) h = ap class (eqb-true m n h)
plain_is object object h = refl
plain_is variant variant h = refl
plain_is (array x m) (array y n) h = ap (λ t. array t 0) (plain_is x y h)
plain_is nothing nothing h = refl
plain_is unknown unknown h = refl
plain_is _ _ h = absurd (cc h)

by_plain : (a c : Ty) → is_same_type (plain a) c ≡ is_same_type a c
by_plain (array x m) (array y n) = by_plain x y
by_plain (array x m) _ = refl
by_plain _ c = refl

types_agree : Agrees is_same_type
types_agree a b c h k = sym (by_plain b c) ∙ ap (λ t. is_same_type t c) (sym (plain_is a b h)) ∙ by_plain a c ∙ k

-- ---- names

names_agree : Agrees is_same_name
names_agree a b c h k = subst (λ (n : List ℕ). pointwise nat_eq n (lower_case c) ≡ true) (same_text (lower_case a) (lower_case b) (sym h)) k

-- ---- parameters

named_types_agree : Agrees have_same_type
named_types_agree None None None h k = refl
named_types_agree (Some v) (Some w) (Some x) h k = types_agree v.named w.named x.named h k
named_types_agree _ _ _ h k = absurd (cc (h, k))

variable_names_agree : Agrees have_same_name
variable_names_agree None None None h k = refl
variable_names_agree (Some v) (Some w) (Some x) h k = names_agree v.name w.name x.name h k
variable_names_agree _ _ _ h k = absurd (cc (h, k))

indexes_agree : (vars : List Variable) → Agrees (is_same_index vars)
indexes_agree vars a b c h k =
    let x = slice_get vars a.0 in
    let y = slice_get vars b.0 in
    let z = slice_get vars c.0 in
    let first = and_parts (have_same_name x y) (have_same_type x y) h in
    let second = and_parts (have_same_name x z) (have_same_type x z) k in
    and_from (have_same_name y z) (have_same_type y z) (variable_names_agree x y z first.0 second.0) (named_types_agree x y z first.1 second.1)

-- in pairs, as far as both lists go
each_agree : (vars : List Variable) (us vs ws : List VarId) → length us ≡ length vs → length us ≡ length ws
    → list_all (λ p. is_same_index vars p.0 p.1) (zip us vs) ≡ true → list_all (λ p. is_same_index vars p.0 p.1) (zip us ws) ≡ true
    → list_all (λ p. is_same_index vars p.0 p.1) (zip vs ws) ≡ true
each_agree vars [] [] ws e f h k = refl
each_agree vars [] (b ∷ vs) ws e f h k = absurd (omega (arith, e))
each_agree vars (a ∷ us) [] ws e f h k = refl
each_agree vars (a ∷ us) (b ∷ vs) [] e f h k = refl
each_agree vars (a ∷ us) (b ∷ vs) (c ∷ ws) e f h k =
    let first = and_parts (is_same_index vars a b) (list_all (λ p. is_same_index vars p.0 p.1) (zip us vs)) h in
    let second = and_parts (is_same_index vars a c) (list_all (λ p. is_same_index vars p.0 p.1) (zip us ws)) k in
    and_from (is_same_index vars b c) (list_all (λ p. is_same_index vars p.0 p.1) (zip vs ws)) (indexes_agree vars a b c first.0 second.0)
    (each_agree vars us vs ws (omega (arith, e)) (omega (arith, f)) first.1 second.1)

same_length : (m n : ℕ) → m ≡ n → nat_eq m n ≡ true
same_length m n e = grind (arith, nat_tests)

lists_agree : (vars : List Variable) → Agrees (are_same_indexes vars)
lists_agree vars us vs ws h k =
    let first = and_parts (nat_eq (length us) (length vs)) (list_all (λ p. is_same_index vars p.0 p.1) (zip us vs)) h in
    let second = and_parts (nat_eq (length us) (length ws)) (list_all (λ p. is_same_index vars p.0 p.1) (zip us ws)) k in
    let e : length us ≡ length vs = eqb-true _ _ first.0 in
    let f : length us ≡ length ws = eqb-true _ _ second.0 in
    and_from (nat_eq (length vs) (length ws)) (list_all (λ p. is_same_index vars p.0 p.1) (zip vs ws)) (same_length (length vs) (length ws) (sym e ∙ f)) (each_agree vars us vs ws e f first.1 second.1)

-- ---- parts

pub parts_agree : (D : Declarations) → Agrees (are_alike D)
parts_agree D a b c h k =
    let first = and_parts (is_same_word a.visibility b.visibility && are_same_values D.vars (value_of a) (value_of b)) (are_same_indexes D.vars (indexes_of a) (indexes_of b)) h in
    let second = and_parts (is_same_word a.visibility c.visibility && are_same_values D.vars (value_of a) (value_of c)) (are_same_indexes D.vars (indexes_of a) (indexes_of c)) k in
    let front = and_parts (is_same_word a.visibility b.visibility) (are_same_values D.vars (value_of a) (value_of b)) first.0 in
    let other = and_parts (is_same_word a.visibility c.visibility) (are_same_values D.vars (value_of a) (value_of c)) second.0 in
    and_from (is_same_word b.visibility c.visibility && are_same_values D.vars (value_of b) (value_of c)) (are_same_indexes D.vars (indexes_of b) (indexes_of c))
    (and_from (is_same_word b.visibility c.visibility) (are_same_values D.vars (value_of b) (value_of c)) (words_agree a.visibility b.visibility c.visibility front.0 other.0)
    (named_types_agree (variable_at D.vars (value_of a)) (variable_at D.vars (value_of b)) (variable_at D.vars (value_of c)) front.1 other.1))
    (lists_agree D.vars (indexes_of a) (indexes_of b) (indexes_of c) first.1 second.1)

-- what passes a test, which every test that it passes finds too
abbrev Found : {X : Type 0} → (X → Bool) → List X → Type 0
Found {X} test xs = (x : X) × (test x ≡ true) × ((other : X → Bool) → other x ≡ true → list_any other xs ≡ true)

or_true : (b : Bool) → (b || true) ≡ true
or_true true = refl
or_true false = refl

found_in : {X : Type 0} (test : X → Bool) (x : X) (xs : List X) (b : Bool) → test x ≡ b → (b || list_any test xs) ≡ true → (list_any test xs ≡ true → Found test xs) → Found test (x ∷ xs)
found_in test x xs true e h more = (x, e, λ other k. ap (λ b. b || list_any other xs) k)
found_in test x xs false e h more = let f = more h in (f.0, f.1, λ other k. ap (λ b. other x || b) (f.2 other k) ∙ or_true (other x))

found : {X : Type 0} (test : X → Bool) (xs : List X) → list_any test xs ≡ true → Found test xs
found test [] h = absurd (cc h)
found test (x ∷ xs) h = found_in test x xs (test x) refl h (found test xs)

abbrev is_part : ℕ → Procedure → Bool
is_part number p = is_property p.kind && nat_eq number p.first.0

-- whether some two parts of a property differ
abbrev pub some_differ : Declarations → (number : ℕ) → Bool
some_differ D number = some_part D number (λ p. some_part D number (λ q. not (are_alike D p q)))

abbrev is_told : Declarations → (number : ℕ) → (first : Procedure) → Bool
is_told D number first = some_part D number (λ p. not (are_alike D first p) || lacks_value p)

by_two : (D : Declarations) (number : ℕ) (first p q : Procedure) (a b : Bool) → are_alike D first p ≡ a → are_alike D first q ≡ b → not (are_alike D p q) ≡ true
    → (a ≡ false → is_told D number first ≡ true) → (b ≡ false → is_told D number first ≡ true) → is_told D number first ≡ true
by_two D number first p q false b e f differ of_p of_q = of_p refl
by_two D number first p q true false e f differ of_p of_q = of_q refl
by_two D number first p q true true e f differ of_p of_q = absurd (let t = ap not (parts_agree D first p q e f) in cc (t, differ))

differs : (D : Declarations) (first p : Procedure) → are_alike D first p ≡ false → (not (are_alike D first p) || lacks_value p) ≡ true
differs D first p e = ap (λ b. not b || lacks_value p) e

pub two_are_told : (D : Declarations) (number : ℕ) (first : Procedure) → some_differ D number ≡ true → breaks_with D number first ≡ true
two_are_told D number first h =
    let p = found (λ p. is_part number p && some_part D number (λ q. not (are_alike D p q))) D.procs h in
    let parts = and_parts (is_part number p.0) (some_part D number (λ q. not (are_alike D p.0 q))) p.1 in
    let q = found (λ q. is_part number q && not (are_alike D p.0 q)) D.procs parts.1 in
    let others = and_parts (is_part number q.0) (not (are_alike D p.0 q.0)) q.1 in
    let test = λ (x : Procedure). is_part number x && (not (are_alike D first x) || lacks_value x) in
    let told : is_told D number first ≡ true =
    by_two D number first p.0 q.0 (are_alike D first p.0) (are_alike D first q.0) refl refl others.1
    (λ e. p.2 test (and_from (is_part number p.0) (not (are_alike D first p.0) || lacks_value p.0) parts.0 (differs D first p.0 e)))
    (λ e. q.2 test (and_from (is_part number q.0) (not (are_alike D first q.0) || lacks_value q.0) others.0 (differs D first q.0 e))) in
    ap (λ b. b || (some_part D number (λ x. is_let x.kind) && some_part D number (λ x. is_set x.kind))) told
