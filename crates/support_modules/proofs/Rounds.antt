-- The functions that used ones lead to by so many calls are those of so many rounds.
use Rattle.std.proofs.Common.{◌≡◌, ℕ, zero, suc, Bool, true, false, ◌||◌, List, [], ◌∷◌, refl, sym, ap, ◌∙◌, inl, inr}
use Rattle.std.specs.Cmp.Lexicographic.{bytes_decides}
use Rattle.std.specs.List.{filter, flat_map, list_any}
use Rattle.std.proofs.lemmas.List.Folds.{list_any-append}
use Rattle.net_tree.specs.Tree.{Procedure}
use Rattle.support_text.specs.Needs.{is_path}
use Rattle.written_trees.specs.Names.{Path, alone}
use Rattle.written_trees.specs.Supports.{calls, function_name, is_same_function, leads_within, met}
use Rattle.support_modules.specs.Paths.{is_among, paths_of_procedure}
use Rattle.support_modules.proofs.Among.{In, any_has, from_filter, has_any, in_filter, or_cases, or_left, or_right, same_tests}
use Rattle.support_modules.proofs.WalkedPaths.{among, procedure_met}

-- ---- sets of functions, by their names

abbrev pub NameSet : Type 0
NameSet = List ℕ → Bool

abbrev pub members : List Procedure → NameSet → List Procedure
members all set = filter (λ f. set (function_name f)) all

abbrev pub called_by : List Procedure → NameSet → NameSet
called_by all set name = is_among (flat_map paths_of_procedure (members all set)) (alone name)

abbrev pub next_set : List Procedure → NameSet → NameSet
next_set all set name = set name || called_by all set name

abbrev pub sets_after : List Procedure → ℕ → NameSet → NameSet
sets_after all zero set = set
sets_after all (suc n) set = sets_after all n (next_set all set)

-- the functions that those of a set lead to
abbrev pub reached : List Procedure → NameSet → ℕ → Procedure → Bool
reached all set n g = list_any (λ f. leads_within all n f g) (members all set)

-- ---- names and calls

same_names : (f g : Procedure) → is_same_function f g ≡ true → function_name f ≡ function_name g
same_names f g h = (bytes_decides (function_name f) (function_name g)).0 h

is_itself : (g : Procedure) → is_same_function g g ≡ true
is_itself g = (bytes_decides (function_name g) (function_name g)).1 refl

calls_among : (f g : Procedure) → calls f g ≡ is_among (paths_of_procedure f) (alone (function_name g))
calls_among f g = procedure_met (met (alone (function_name g))) false f ∙ among (alone (function_name g)) (paths_of_procedure f)

pub among_listed : {A : Type 0} (paths : A → List Path) (xs : List A) (wanted : Path) → is_among (flat_map paths xs) wanted ≡ list_any (λ x. is_among (paths x) wanted) xs
among_listed paths [] wanted = refl
among_listed paths (x ∷ xs) wanted =
    list_any-append (λ p. is_path p wanted) (paths x) (flat_map paths xs)
    ∙ ap (λ b. is_among (paths x) wanted || b) (among_listed paths xs wanted)

-- ---- one call more

same_leads : (all : List Procedure) (n : ℕ) (f g : Procedure) → is_same_function f g ≡ true → leads_within all n f g ≡ true
same_leads all zero f g h = h
same_leads all (suc n) f g h = or_left (is_same_function f g) _ h

leads_further : (all : List Procedure) (n : ℕ) (f g : Procedure) → leads_within all n f g ≡ true → leads_within all (suc n) f g ≡ true
leads_further all zero f g h = or_left (is_same_function f g) _ h
leads_further all (suc n) f g h =
    elim (or_cases (is_same_function f g) (list_any (λ k. leads_within all n k g) (filter (calls f) all)) h) [
      | inl e ↦ or_left (is_same_function f g) _ e
      | inr e ↦ or_right (is_same_function f g) _ (any_further all n g (filter (calls f) all) (λ k i. leads_further all n k g i) e)
    ]
  where
    any_further : (all : List Procedure) (n : ℕ) (g : Procedure) (fs : List Procedure) → ((k : Procedure) → leads_within all n k g ≡ true → leads_within all (suc n) k g ≡ true) → list_any (λ k. leads_within all n k g) fs ≡ true → list_any (λ k. leads_within all (suc n) k g) fs ≡ true
    any_further all n g fs more e =
        let w = any_has (λ k. leads_within all n k g) fs e in
        has_any (λ k. leads_within all (suc n) k g) fs w.0 w.1 (more w.0 w.2)

-- a function that one of the set calls is in the next
called_next : (all : List Procedure) (set : NameSet) (f h : Procedure) → In f (members all set) → calls f h ≡ true → next_set all set (function_name h) ≡ true
called_next all set f h i e =
    or_right (set (function_name h)) _
    (among_listed paths_of_procedure (members all set) (alone (function_name h))
    ∙ has_any (λ k. is_among (paths_of_procedure k) (alone (function_name h))) (members all set) f i (sym (calls_among f h) ∙ e))

by_call : (all : List Procedure) (set : NameSet) (n : ℕ) (g f : Procedure) → In f (members all set) → list_any (λ h. leads_within all n h g) (filter (calls f) all) ≡ true → reached all (next_set all set) n g ≡ true
by_call all set n g f i e =
    let w = any_has (λ h. leads_within all n h g) (filter (calls f) all) e in
    let k = from_filter (calls f) all w.0 w.1 in
    has_any (λ h. leads_within all n h g) (members all (next_set all set)) w.0
    (in_filter (λ h. next_set all set (function_name h)) all w.0 k.0 (called_next all set f w.0 i k.1)) w.2

by_itself : (all : List Procedure) (set : NameSet) (n : ℕ) (g f : Procedure) → In f (members all set) → leads_within all n f g ≡ true → reached all (next_set all set) n g ≡ true
by_itself all set n g f i e =
    let k = from_filter (λ h. set (function_name h)) all f i in
    has_any (λ h. leads_within all n h g) (members all (next_set all set)) f
    (in_filter (λ h. next_set all set (function_name h)) all f k.0 (or_left (set (function_name f)) _ k.1)) e

one_more : (all : List Procedure) (set : NameSet) (n : ℕ) (g : Procedure) → reached all set (suc n) g ≡ true → reached all (next_set all set) n g ≡ true
one_more all set n g h =
    let w = any_has (λ f. leads_within all (suc n) f g) (members all set) h in
    elim (or_cases (is_same_function w.0 g) (list_any (λ k. leads_within all n k g) (filter (calls w.0) all)) w.2) [
      | inl e ↦ by_itself all set n g w.0 w.1 (same_leads all n w.0 g e)
      | inr e ↦ by_call all set n g w.0 w.1 e
    ]

-- a function of the next set is in the set, or one of the set calls it
from_itself : (all : List Procedure) (set : NameSet) (n : ℕ) (g h : Procedure) → In h all → set (function_name h) ≡ true → leads_within all n h g ≡ true → reached all set (suc n) g ≡ true
from_itself all set n g h i s e =
    has_any (λ f. leads_within all (suc n) f g) (members all set) h (in_filter (λ f. set (function_name f)) all h i s) (leads_further all n h g e)

from_call : (all : List Procedure) (set : NameSet) (n : ℕ) (g h : Procedure) → In h all → called_by all set (function_name h) ≡ true → leads_within all n h g ≡ true → reached all set (suc n) g ≡ true
from_call all set n g h i s e =
    let w = any_has (λ k. is_among (paths_of_procedure k) (alone (function_name h))) (members all set) (sym (among_listed paths_of_procedure (members all set) (alone (function_name h))) ∙ s) in
    has_any (λ f. leads_within all (suc n) f g) (members all set) w.0 w.1
    (or_right (is_same_function w.0 g) _
    (has_any (λ k. leads_within all n k g) (filter (calls w.0) all) h (in_filter (calls w.0) all h i (calls_among w.0 h ∙ w.2)) e))

one_less : (all : List Procedure) (set : NameSet) (n : ℕ) (g : Procedure) → reached all (next_set all set) n g ≡ true → reached all set (suc n) g ≡ true
one_less all set n g h =
    let w = any_has (λ f. leads_within all n f g) (members all (next_set all set)) h in
    let k = from_filter (λ f. next_set all set (function_name f)) all w.0 w.1 in
    elim (or_cases (set (function_name w.0)) (called_by all set (function_name w.0)) k.1) [
      | inl e ↦ from_itself all set n g w.0 k.0 e w.2
      | inr e ↦ from_call all set n g w.0 k.0 e w.2
    ]

one_round : (all : List Procedure) (set : NameSet) (n : ℕ) (g : Procedure) → reached all set (suc n) g ≡ reached all (next_set all set) n g
one_round all set n g = same_tests (reached all set (suc n) g) (reached all (next_set all set) n g) (one_more all set n g) (one_less all set n g)

-- ---- all rounds

rounds : (all : List Procedure) (n : ℕ) (set : NameSet) (g : Procedure) → reached all set n g ≡ reached all (sets_after all n set) 0 g
rounds all zero set g = refl
rounds all (suc n) set g = one_round all set n g ∙ rounds all n (next_set all set) g

in_set : (all : List Procedure) (set : NameSet) (g : Procedure) → In g all → reached all set 0 g ≡ set (function_name g)
in_set all set g i =
    same_tests (reached all set 0 g) (set (function_name g))
    (λ h. let w = any_has (λ f. is_same_function f g) (members all set) h in
    sym (ap set (same_names w.0 g w.2)) ∙ (from_filter (λ f. set (function_name f)) all w.0 w.1).1)
    (λ h. has_any (λ f. is_same_function f g) (members all set) g (in_filter (λ f. set (function_name f)) all g i h) (is_itself g))

pub reached_in_rounds : (all : List Procedure) (n : ℕ) (set : NameSet) (g : Procedure) → In g all → reached all set n g ≡ sets_after all n set (function_name g)
reached_in_rounds all n set g i = rounds all n set g ∙ in_set all (sets_after all n set) g i
