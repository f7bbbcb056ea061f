-- The points that have a number and break a rule, by marks, or from which an arrow leads to an Option or Def line that does.
use Rattle.std.specs.Prelude.{◌≡◌, ℕ, suc, Bool, false, cond, ◌&&◌, nat_eq, Option, Some, None, List, [], ◌∷◌, ◌++◌, map, slice_get}
use Rattle.std.specs.List.{flat_map, list_any}
use Rattle.std.specs.declared.hash.FoldHasher.{FoldHasher}
use Rattle.std.specs.declared.hash.BuildHasherDefault.{BuildHasherDefault}
use Rattle.std.specs.HashSet.{HashSet}
use Rattle.bound_tree.specs.declared.marks.Marks.{Marks}
use Rattle.bound_tree.specs.declared.rule_set.RuleSet.{RuleSet}
use Rattle.bound_tree.specs.RuleSets.{is_broken}
use Rattle.bound_tree.specs.Tree.{Variable, Constant, Procedure, Declarations}
use Rattle.bound_facts.specs.Clean.{Point, procedure, variable, constant, user_type, set_broken}
use Rattle.clean_procedures.specs.Options.{Noted, has_broken, is_broken_at, noted}

abbrev pub number_if : Bool → ℕ → List ℕ
number_if test k = cond test (k ∷ []) []

-- the numbers of those that pass a test, which are numbered from k
abbrev pub those_from : {X : Type 0} → (X → Bool) → ℕ → List X → List ℕ
those_from test k [] = []
those_from test k (x ∷ xs) = number_if (test x) k ++ those_from test (suc k) xs

-- ---- by the marks of one pass

abbrev pub some_broken : List RuleSet → Bool
some_broken sets = list_any is_broken sets

abbrev pub pass_points : Marks → List Point
pass_points m = map procedure (those_from is_broken 0 m.heads) ++ (map procedure (those_from some_broken 0 m.lines) ++ map user_type (those_from is_broken 0 m.types))

-- ---- statements by their file and their number in it

abbrev pub Statement : Type 0
Statement = ℕ × ℕ

abbrev pub statement_if : Bool → Statement → List Statement
statement_if test s = cond test (s ∷ []) []

abbrev pub of_variable : Variable → Statement
of_variable v = (v.place.file, v.statement)

abbrev pub of_constant : Constant → Statement
of_constant c = (c.place.file, c.statement)

-- those of variables, and of constants, that are numbered from k and have a set with a rule
abbrev pub variable_statements : List RuleSet → ℕ → List Variable → List Statement
variable_statements sets k [] = []
variable_statements sets k (v ∷ vs) = statement_if (set_broken (slice_get sets k)) (of_variable v) ++ variable_statements sets (suc k) vs

abbrev pub constant_statements : List RuleSet → ℕ → List Constant → List Statement
constant_statements sets k [] = []
constant_statements sets k (c ∷ cs) = statement_if (set_broken (slice_get sets k)) (of_constant c) ++ constant_statements sets (suc k) cs

abbrev pub pass_statements : Declarations → Marks → List Statement
pass_statements D m = variable_statements m.vars 0 D.vars ++ constant_statements m.consts 0 D.consts

abbrev pub statements : Declarations → List Marks → List Statement
statements D ms = flat_map (pass_statements D) ms

abbrev pub is_same : Statement → Statement → Bool
is_same s t = nat_eq s.0 t.0 && nat_eq s.1 t.1

abbrev pub is_among : List Statement → Statement → Bool
is_among list s = list_any (is_same s) list

-- ---- declarations and procedures

-- whether a declaration is of a statement in a list
abbrev pub is_variable_among : List Statement → Variable → Bool
is_variable_among list v = is_among list (of_variable v)

abbrev pub is_constant_among : List Statement → Constant → Bool
is_constant_among list c = is_among list (of_constant c)

-- whether the module of a procedure has an Option or a Def line that breaks a rule
abbrev pub is_under : List Noted → Procedure → Bool
is_under ms p = has_broken p.module_number ms

-- whether a Def line that breaks a rule gives a variable its type
abbrev pub is_lettered_by : List Noted → (file : ℕ) → Option ℕ → Bool
is_lettered_by ms file None = false
is_lettered_by ms file (Some statement) = is_broken_at file statement ms

abbrev pub is_lettered : List Noted → Variable → Bool
is_lettered ms v = is_lettered_by ms v.place.file v.lettered

-- ---- all of them

abbrev pub mark_points : List Marks → List Point
mark_points ms = flat_map pass_points ms

abbrev pub statement_points : Declarations → List Statement → List Point
statement_points D list = map variable (those_from (is_variable_among list) 0 D.vars) ++ map constant (those_from (is_constant_among list) 0 D.consts)

abbrev pub option_points : Declarations → List Noted → List Point
option_points D ms = map procedure (those_from (is_under ms) 0 D.procs) ++ map variable (those_from (is_lettered ms) 0 D.vars)

abbrev pub broken_points : Declarations → List Marks → List Point
broken_points D ms = mark_points ms ++ (statement_points D (statements D ms) ++ option_points D (map noted D.project.modules))

-- a set has the statements of a list
abbrev pub AreStatements : HashSet Statement (BuildHasherDefault FoldHasher) → List Statement → Type 0
AreStatements set list = (s : Statement) → is_among set.keys s ≡ is_among list s
