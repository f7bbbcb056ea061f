-- Where nothing is marked and no Option line breaks a rule, all procedures are clean.
use Rattle.std.proofs.Common.{◌≡◌, refl, ℕ, zero, suc, Bool, true, false, cond, not, ◌&&◌, List, [], ◌∷◌, Option, Some, None}
use Rattle.std.specs.Prelude.{nat_eq, slice_get}
use Rattle.std.specs.List.{list_all}
use Rattle.up_base.specs.declared.place.Place.{Place}
use Rattle.vb_tree.specs.Tree as vb
use Rattle.bound_tree.specs.declared.marks.Marks.{Marks}
use Rattle.bound_tree.specs.Tree.{Constant, Declarations, Program, Variable}
use Rattle.bound_tree.specs.RuleSets.{is_broken}
use Rattle.vb_tree.specs.FlatLines.{module_lines}
use Rattle.bound_facts.specs.Clean.{IsClean, Point, constant, constant_broken, constants_broken, form_broken, is_statement, option_broken, option_line, option_rules, point_broken, procedure, set_broken, statement_broken, user_type, variable, variable_broken, variables_broken}
use Rattle.name_laws.proofs.Lists.{both_true, none_of_both}

abbrev pub no_marks : Marks
no_marks = record { lines = []; heads = []; vars = []; consts = []; types = []; enums = [] }

and_none : (a b : Bool) → b ≡ false → (a && b) ≡ false
and_none true b e = e
and_none false b e = refl

no_set : (k : ℕ) → set_broken (slice_get [] k) ≡ false
no_set k = refl

no_variable : (place : Place) (s k : ℕ) (xs : List Variable) → variables_broken [] place s k xs ≡ false
no_variable place s k [] = refl
no_variable place s k (x ∷ xs) =
    none_of_both (is_statement place s x.place x.statement && set_broken (slice_get [] k)) (variables_broken [] place s (suc k) xs)
    (and_none (is_statement place s x.place x.statement) (set_broken (slice_get [] k)) (no_set k))
    (no_variable place s (suc k) xs)

no_constant : (place : Place) (s k : ℕ) (xs : List Constant) → constants_broken [] place s k xs ≡ false
no_constant place s k [] = refl
no_constant place s k (x ∷ xs) =
    none_of_both (is_statement place s x.place x.statement && set_broken (slice_get [] k)) (constants_broken [] place s (suc k) xs)
    (and_none (is_statement place s x.place x.statement) (set_broken (slice_get [] k)) (no_set k))
    (no_constant place s (suc k) xs)

unmarked_statement : (D : Declarations) (place : Place) (s : ℕ) → statement_broken D no_marks place s ≡ false
unmarked_statement D place s =
    none_of_both (variables_broken [] place s 0 D.vars) (constants_broken [] place s 0 D.consts) (no_variable place s 0 D.vars)
    (no_constant place s 0 D.consts)

unmarked_variable : (D : Declarations) (x : Option Variable) → variable_broken D no_marks x ≡ false
unmarked_variable D None = refl
unmarked_variable D (Some x) = unmarked_statement D x.place x.statement

unmarked_constant : (D : Declarations) (x : Option Constant) → constant_broken D no_marks x ≡ false
unmarked_constant D None = refl
unmarked_constant D (Some x) = unmarked_statement D x.place x.statement

-- no Option or Def line that breaks a rule
abbrev is_quiet_line : vb.Line → Bool
is_quiet_line l = not (is_broken (option_rules l.form))

abbrev pub is_quiet_module : vb.Module → Bool
is_quiet_module m = list_all is_quiet_line (module_lines m)

not_true : (b : Bool) → not b ≡ true → b ≡ false
not_true true h = absurd (cc h)
not_true false h = refl

form_at : (xs : List vb.Line) (k : ℕ) → list_all is_quiet_line xs ≡ true → form_broken (slice_get xs k) ≡ false
form_at [] k h = refl
form_at (l ∷ ls) zero h = not_true (is_broken (option_rules l.form)) (both_true (is_quiet_line l) (list_all is_quiet_line ls) h).0
form_at (l ∷ ls) (suc k) h = form_at ls k (both_true (is_quiet_line l) (list_all is_quiet_line ls) h).1

either : (b x y : Bool) → x ≡ false → y ≡ false → cond b x y ≡ false
either true x y e f = e
either false x y e f = f

option_at : (ms : List vb.Module) (file k : ℕ) → list_all is_quiet_module ms ≡ true → option_broken file k ms ≡ false
option_at [] file k h = refl
option_at (m ∷ ms) file k h =
    let both : (is_quiet_module m ≡ true) × (list_all is_quiet_module ms ≡ true) = both_true (is_quiet_module m) (list_all is_quiet_module ms) h in
    either (nat_eq m.file file) (form_broken (slice_get (module_lines m) k)) (option_broken file k ms) (form_at (module_lines m) k both.0)
    (option_at ms file k both.1)

unmarked : (D : Declarations) (q : Point) → list_all is_quiet_module D.project.modules ≡ true → point_broken D no_marks q ≡ false
unmarked D (procedure p) h = refl
unmarked D (variable v) h = unmarked_variable D (slice_get D.vars v)
unmarked D (constant c) h = unmarked_constant D (slice_get D.consts c)
unmarked D (user_type t) h = refl
unmarked D (option_line file k) h = option_at D.project.modules file k h

pub all_clean : (P : Program) → list_all is_quiet_module P.declarations.project.modules ≡ true → (p : ℕ) → IsClean P no_marks p
all_clean P h p q path = unmarked P.declarations q h
