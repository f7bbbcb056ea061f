-- The points of the list of those that are broken.
use Rattle.std.proofs.Common.{◌≡◌, ℕ, ◌+◌, Bool, true, List, ◌++◌, map, Option, Some, None, refl, ap, sym, subst, ◌∙◌, arith, inl, inr, ⊎_elim}
use Rattle.std.specs.Prelude.{◌⊎◌, slice_get}
use Rattle.up_base.specs.declared.place.Place.{Place}
use Rattle.bound_tree.specs.declared.marks.Marks.{Marks}
use Rattle.bound_tree.specs.declared.rule_set.RuleSet.{RuleSet}
use Rattle.bound_tree.specs.RuleSets.{is_broken}
use Rattle.bound_tree.specs.Tree.{Variable, Constant, Declarations}
use Rattle.bound_facts.specs.Clean.{Arrow, Point, procedure, variable, constant, user_type, option_line, constant_broken, lettered_point, option_broken, options_of, point_broken, set_broken, sets_broken, variable_broken}
use Rattle.clean_procedures.specs.Broken.{broken_points, is_constant_among, is_lettered, is_lettered_by, is_under, is_variable_among, mark_points, option_points, pass_points, some_broken, statement_points, statements, those_from}
use Rattle.clean_procedures.specs.Options.{has_broken, noted}
use Rattle.clean_procedures.proofs.Among.{Among, among_append, among_left, among_right, among_map, map_among, among_flat, flat_among, those_have, have_those}
use Rattle.clean_procedures.proofs.Ends.{arrows_have, have_arrows}
use Rattle.clean_procedures.proofs.Numbering.{is_numbered}
use Rattle.clean_procedures.proofs.OptionLines.{broken_at_is, broken_has, has_at, of_module}
use Rattle.clean_procedures.proofs.Split.{arrows_from, lettered_of, option_arrows, options_under}
use Rattle.clean_procedures.proofs.StatementLists.{broken_by, by_broken, or_cases, or_left, or_right}

-- ---- those that pass a test, by their numbers from 0

in_place : {X : Type 0} (test : X → Bool) (j : ℕ) (xs : List X) (x : X) → slice_get xs j ≡ Some x → test x ≡ true → Among (those_from test 0 xs) j
in_place test j xs x e h = subst (λ n. Among (those_from test 0 xs) n) (let i : 0 + j ≡ j = omega arith in i) (have_those test 0 j xs x e h)

abbrev AtPlace : {X : Type 0} → (X → Bool) → List X → ℕ → Type 0
AtPlace {X} test xs n = (x : X) × (slice_get xs n ≡ Some x) × (test x ≡ true)

at_place : {X : Type 0} (test : X → Bool) (xs : List X) (n : ℕ) → Among (those_from test 0 xs) n → AtPlace test xs n
at_place test xs n h =
    let o = those_have test 0 xs n h in
    let e : n ≡ o.0 = (let f = o.2 in omega arith) in
    (o.1, ap (slice_get xs) e ∙ o.3, o.4)

set_at : (o : Option RuleSet) → set_broken o ≡ true → (s : RuleSet) × (o ≡ Some s) × (is_broken s ≡ true)
set_at None h = absurd (cc h)
set_at (Some s) h = (s, refl, h)

sets_at : (o : Option (List RuleSet)) → sets_broken o ≡ true → (s : List RuleSet) × (o ≡ Some s) × (some_broken s ≡ true)
sets_at None h = absurd (cc h)
sets_at (Some s) h = (s, refl, h)

variable_at : (D : Declarations) (m : Marks) (o : Option Variable) → variable_broken D m o ≡ true → (v : Variable) × (o ≡ Some v) × (variable_broken D m (Some v) ≡ true)
variable_at D m None h = absurd (cc h)
variable_at D m (Some v) h = (v, refl, h)

constant_at : (D : Declarations) (m : Marks) (o : Option Constant) → constant_broken D m o ≡ true → (c : Constant) × (o ≡ Some c) × (constant_broken D m (Some c) ≡ true)
constant_at D m None h = absurd (cc h)
constant_at D m (Some c) h = (c, refl, h)

-- ---- the parts of the list

abbrev heads_in : Marks → List Point
heads_in m = map procedure (those_from is_broken 0 m.heads)

abbrev lines_in : Marks → List Point
lines_in m = map procedure (those_from some_broken 0 m.lines)

abbrev types_in : Marks → List Point
types_in m = map user_type (those_from is_broken 0 m.types)

abbrev vars_in : Declarations → List Marks → List Point
vars_in D ms = map variable (those_from (is_variable_among (statements D ms)) 0 D.vars)

abbrev consts_in : Declarations → List Marks → List Point
consts_in D ms = map constant (those_from (is_constant_among (statements D ms)) 0 D.consts)

abbrev procs_under : Declarations → List Point
procs_under D = map procedure (those_from (is_under (map noted D.project.modules)) 0 D.procs)

abbrev vars_lettered : Declarations → List Point
vars_lettered D = map variable (those_from (is_lettered (map noted D.project.modules)) 0 D.vars)

abbrev rest_of : Declarations → List Marks → List Point
rest_of D ms = statement_points D (statements D ms) ++ option_points D (map noted D.project.modules)

in_marks : (D : Declarations) (ms : List Marks) (m : Marks) (q : Point) → Among ms m → Among (pass_points m) q → Among (broken_points D ms) q
in_marks D ms m q a h = among_left (mark_points ms) (rest_of D ms) q (flat_among pass_points ms m q a h)

in_statements : (D : Declarations) (ms : List Marks) (q : Point) → Among (statement_points D (statements D ms)) q → Among (broken_points D ms) q
in_statements D ms q h =
    among_right (mark_points ms) (rest_of D ms) q (among_left (statement_points D (statements D ms)) (option_points D (map noted D.project.modules)) q h)

in_options : (D : Declarations) (ms : List Marks) (q : Point) → Among (option_points D (map noted D.project.modules)) q → Among (broken_points D ms) q
in_options D ms q h =
    among_right (mark_points ms) (rest_of D ms) q (among_right (statement_points D (statements D ms)) (option_points D (map noted D.project.modules)) q h)

-- ---- what is broken is in the list

by_head : (m : Marks) (p : ℕ) → set_broken (slice_get m.heads p) ≡ true → Among (pass_points m) (procedure p)
by_head m p h =
    let s = set_at (slice_get m.heads p) h in
    among_left (heads_in m) (lines_in m ++ types_in m) (procedure p) (map_among procedure (those_from is_broken 0 m.heads) p (in_place is_broken p m.heads s.0 s.1 s.2))

by_lines : (m : Marks) (p : ℕ) → sets_broken (slice_get m.lines p) ≡ true → Among (pass_points m) (procedure p)
by_lines m p h =
    let s = sets_at (slice_get m.lines p) h in
    among_right (heads_in m) (lines_in m ++ types_in m) (procedure p)
    (among_left (lines_in m) (types_in m) (procedure p) (map_among procedure (those_from some_broken 0 m.lines) p (in_place some_broken p m.lines s.0 s.1 s.2)))

by_type : (m : Marks) (t : ℕ) → set_broken (slice_get m.types t) ≡ true → Among (pass_points m) (user_type t)
by_type m t h =
    let s = set_at (slice_get m.types t) h in
    among_right (heads_in m) (lines_in m ++ types_in m) (user_type t)
    (among_right (lines_in m) (types_in m) (user_type t) (map_among user_type (those_from is_broken 0 m.types) t (in_place is_broken t m.types s.0 s.1 s.2)))

by_variable : (D : Declarations) (ms : List Marks) (m : Marks) (v : ℕ) → Among ms m → variable_broken D m (slice_get D.vars v) ≡ true → Among (statement_points D (statements D ms)) (variable v)
by_variable D ms m v a h =
    let o = variable_at D m (slice_get D.vars v) h in
    let test = is_variable_among (statements D ms) in
    among_left (vars_in D ms) (consts_in D ms) (variable v)
    (map_among variable (those_from test 0 D.vars) v (in_place test v D.vars o.0 o.1 (by_broken D ms m o.0.place o.0.statement a o.2)))

by_constant : (D : Declarations) (ms : List Marks) (m : Marks) (c : ℕ) → Among ms m → constant_broken D m (slice_get D.consts c) ≡ true → Among (statement_points D (statements D ms)) (constant c)
by_constant D ms m c a h =
    let o = constant_at D m (slice_get D.consts c) h in
    let test = is_constant_among (statements D ms) in
    among_right (vars_in D ms) (consts_in D ms) (constant c)
    (map_among constant (those_from test 0 D.consts) c (in_place test c D.consts o.0 o.1 (by_broken D ms m o.0.place o.0.statement a o.2)))

pub broken_is_in : (D : Declarations) (ms : List Marks) (m : Marks) (q : Point) → Among ms m → is_numbered q ≡ true → point_broken D m q ≡ true → Among (broken_points D ms) q
broken_is_in D ms m (procedure p) a e h =
    in_marks D ms m (procedure p) a (⊎_elim (by_head m p) (by_lines m p) (or_cases (set_broken (slice_get m.heads p)) (sets_broken (slice_get m.lines p)) h))
broken_is_in D ms m (variable v) a e h = in_statements D ms (variable v) (by_variable D ms m v a h)
broken_is_in D ms m (constant c) a e h = in_statements D ms (constant c) (by_constant D ms m c a h)
broken_is_in D ms m (user_type t) a e h = in_marks D ms m (user_type t) a (by_type m t h)
broken_is_in D ms m (option_line file n) a e h = absurd (cc e)

-- ---- what leads to an Option or a Def line that is broken

by_letter : (D : Declarations) (m : Marks) (place : Place) (o : Option ℕ) (q : Point) → Among (lettered_point place o) q → point_broken D m q ≡ true
    → is_lettered_by (map noted D.project.modules) place.file o ≡ true
by_letter D m place None q h b = absurd h
by_letter D m place (Some n) q (inl e) b = broken_at_is place.file n D.project.modules ∙ ap (point_broken D m) e ∙ b
by_letter D m place (Some n) q (inr h) b = absurd h

by_option : (D : Declarations) (m : Marks) (file : ℕ) (q : Point) → Among (options_of file D.project.modules) q → point_broken D m q ≡ true → has_broken file (map noted D.project.modules) ≡ true
by_option D m file q h b = let o = of_module file D.project.modules q h in broken_has file o.0 D.project.modules (ap (point_broken D m) o.1 ∙ b)

first_number : (n : ℕ) → 0 + n ≡ n
first_number n = omega arith

pub option_is_in : (D : Declarations) (ms : List Marks) (m : Marks) (a : Arrow) → Among (option_arrows D) a → point_broken D m a.1 ≡ true → Among (broken_points D ms) a.0
option_is_in D ms m a h b = ⊎_elim
    (λ l.
    let s = arrows_have lettered_of variable 0 D.vars a l in
    let test = is_lettered (map noted D.project.modules) in
    subst (λ (q : Point). Among (broken_points D ms) q) (ap variable (sym (first_number s.0)) ∙ s.3)
    (in_options D ms (variable s.0) (among_right (procs_under D) (vars_lettered D) (variable s.0)
    (map_among variable (those_from test 0 D.vars) s.0 (in_place test s.0 D.vars s.1 s.2 (by_letter D m s.1.place s.1.lettered a.1 s.4 b))))))
    (λ o.
    let s = arrows_have (options_under D.project.modules) procedure 0 D.procs a o in
    let test = is_under (map noted D.project.modules) in
    subst (λ (q : Point). Among (broken_points D ms) q) (ap procedure (sym (first_number s.0)) ∙ s.3)
    (in_options D ms (procedure s.0) (among_left (procs_under D) (vars_lettered D) (procedure s.0)
    (map_among procedure (those_from test 0 D.procs) s.0 (in_place test s.0 D.procs s.1 s.2 (by_option D m s.1.module_number a.1 s.4 b))))))
    (among_append (arrows_from lettered_of variable 0 D.vars) (arrows_from (options_under D.project.modules) procedure 0 D.procs) a h)

-- ---- what is in the list is broken

-- the point is broken by some marks, or an arrow leads from it to an Option or a Def line that is
pub record Cause (D : Declarations) (ms : List Marks) (q : Point) : Type 0 where
  pub numbered : is_numbered q ≡ true
  pub broken : Point
  pub marks : Marks
  pub stands : Among ms marks
  pub leads : (broken ≡ q) ⊎ Among (option_arrows D) (q, broken)
  pub is_broken : point_broken D marks broken ≡ true

itself : (D : Declarations) (ms : List Marks) (m : Marks) (q : Point) → Among ms m → is_numbered q ≡ true → point_broken D m q ≡ true → Cause D ms q
itself D ms m q a e h = record { numbered = e; broken = q; marks = m; stands = a; leads = inl refl; is_broken = h }

moved : (D : Declarations) (ms : List Marks) (p q : Point) → p ≡ q → Cause D ms p → Cause D ms q
moved D ms p q e c = subst (Cause D ms) e c

head_cause : (D : Declarations) (ms : List Marks) (m : Marks) (q : Point) → Among ms m → Among (heads_in m) q → Cause D ms q
head_cause D ms m q a h =
    let o = among_map procedure (those_from is_broken 0 m.heads) q h in
    let s = at_place is_broken m.heads o.0 o.1 in
    moved D ms (procedure o.0) q o.2 (itself D ms m (procedure o.0) a refl (or_left (set_broken (slice_get m.heads o.0)) (sets_broken (slice_get m.lines o.0)) (ap set_broken s.1 ∙ s.2)))

lines_cause : (D : Declarations) (ms : List Marks) (m : Marks) (q : Point) → Among ms m → Among (lines_in m) q → Cause D ms q
lines_cause D ms m q a h =
    let o = among_map procedure (those_from some_broken 0 m.lines) q h in
    let s = at_place some_broken m.lines o.0 o.1 in
    moved D ms (procedure o.0) q o.2 (itself D ms m (procedure o.0) a refl (or_right (set_broken (slice_get m.heads o.0)) (sets_broken (slice_get m.lines o.0)) (ap sets_broken s.1 ∙ s.2)))

type_cause : (D : Declarations) (ms : List Marks) (m : Marks) (q : Point) → Among ms m → Among (types_in m) q → Cause D ms q
type_cause D ms m q a h =
    let o = among_map user_type (those_from is_broken 0 m.types) q h in
    let s = at_place is_broken m.types o.0 o.1 in
    moved D ms (user_type o.0) q o.2 (itself D ms m (user_type o.0) a refl (ap set_broken s.1 ∙ s.2))

marks_cause : (D : Declarations) (ms : List Marks) (q : Point) → Among (mark_points ms) q → Cause D ms q
marks_cause D ms q h =
    let o = among_flat pass_points ms q h in
    let m = o.0 in
    ⊎_elim (head_cause D ms m q o.1) (λ r. ⊎_elim (lines_cause D ms m q o.1) (type_cause D ms m q o.1) (among_append (lines_in m) (types_in m) q r)) (among_append (heads_in m) (lines_in m ++ types_in m) q o.2)

variable_cause : (D : Declarations) (ms : List Marks) (q : Point) → Among (vars_in D ms) q → Cause D ms q
variable_cause D ms q h =
    let test = is_variable_among (statements D ms) in
    let o = among_map variable (those_from test 0 D.vars) q h in
    let s = at_place test D.vars o.0 o.1 in
    let b = broken_by D ms s.0.place s.0.statement s.2 in
    moved D ms (variable o.0) q o.2 (itself D ms b.0 (variable o.0) b.1 refl (ap (variable_broken D b.0) s.1 ∙ b.2))

constant_cause : (D : Declarations) (ms : List Marks) (q : Point) → Among (consts_in D ms) q → Cause D ms q
constant_cause D ms q h =
    let test = is_constant_among (statements D ms) in
    let o = among_map constant (those_from test 0 D.consts) q h in
    let s = at_place test D.consts o.0 o.1 in
    let b = broken_by D ms s.0.place s.0.statement s.2 in
    moved D ms (constant o.0) q o.2 (itself D ms b.0 (constant o.0) b.1 refl (ap (constant_broken D b.0) s.1 ∙ b.2))

by_arrow : (D : Declarations) (ms : List Marks) (m : Marks) (p q : Point) → Among ms m → is_numbered p ≡ true → Among (option_arrows D) (p, q) → point_broken D m q ≡ true → Cause D ms p
by_arrow D ms m p q a e h b = record { numbered = e; broken = q; marks = m; stands = a; leads = inr h; is_broken = b }

procedure_cause : (D : Declarations) (ms : List Marks) (m : Marks) (q : Point) → Among ms m → Among (procs_under D) q → Cause D ms q
procedure_cause D ms m q a h =
    let test = is_under (map noted D.project.modules) in
    let o = among_map procedure (those_from test 0 D.procs) q h in
    let s = at_place test D.procs o.0 o.1 in
    let b = has_at s.0.module_number D.project.modules s.2 in
    let line = option_line s.0.module_number b.0 in
    let arrow = have_arrows (options_under D.project.modules) procedure 0 o.0 D.procs s.0 line s.1 b.2 in
    moved D ms (procedure o.0) q o.2
    (by_arrow D ms m (procedure o.0) line a refl
    (among_right (arrows_from lettered_of variable 0 D.vars) (arrows_from (options_under D.project.modules) procedure 0 D.procs) (procedure o.0, line)
    (subst (λ n. Among (arrows_from (options_under D.project.modules) procedure 0 D.procs) (procedure n, line)) (first_number o.0) arrow)) b.1)

-- the line that gives a variable its type
abbrev LetterAt : Declarations → Place → Option ℕ → Type 0
LetterAt D place o = (n : ℕ) × (option_broken place.file n D.project.modules ≡ true) × Among (lettered_point place o) (option_line place.file n)

letter_at : (D : Declarations) (place : Place) (o : Option ℕ) → is_lettered_by (map noted D.project.modules) place.file o ≡ true → LetterAt D place o
letter_at D place None h = absurd (cc h)
letter_at D place (Some n) h = (n, sym (broken_at_is place.file n D.project.modules) ∙ h, inl refl)

letter_cause : (D : Declarations) (ms : List Marks) (m : Marks) (q : Point) → Among ms m → Among (vars_lettered D) q → Cause D ms q
letter_cause D ms m q a h =
    let test = is_lettered (map noted D.project.modules) in
    let o = among_map variable (those_from test 0 D.vars) q h in
    let s = at_place test D.vars o.0 o.1 in
    let b = letter_at D s.0.place s.0.lettered s.2 in
    let line = option_line s.0.place.file b.0 in
    let arrow = have_arrows lettered_of variable 0 o.0 D.vars s.0 line s.1 b.2 in
    moved D ms (variable o.0) q o.2
    (by_arrow D ms m (variable o.0) line a refl
    (among_left (arrows_from lettered_of variable 0 D.vars) (arrows_from (options_under D.project.modules) procedure 0 D.procs) (variable o.0, line)
    (subst (λ n. Among (arrows_from lettered_of variable 0 D.vars) (variable n, line)) (first_number o.0) arrow)) b.1)

pub cause_of : (D : Declarations) (ms : List Marks) (m : Marks) (q : Point) → Among ms m → Among (broken_points D ms) q → Cause D ms q
cause_of D ms m q a h = ⊎_elim
    (marks_cause D ms q)
    (λ r. ⊎_elim
    (λ s. ⊎_elim (variable_cause D ms q) (constant_cause D ms q) (among_append (vars_in D ms) (consts_in D ms) q s))
    (λ t. ⊎_elim (procedure_cause D ms m q a) (letter_cause D ms m q a) (among_append (procs_under D) (vars_lettered D) q t))
    (among_append (statement_points D (statements D ms)) (option_points D (map noted D.project.modules)) q r))
    (among_append (mark_points ms) (rest_of D ms) q h)
