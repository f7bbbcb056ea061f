-- The rule on fixed strings, 12, at declarations and at lines.
use Rattle.std.specs.Prelude.{◌≡◌, ℕ, Bool, List, [], map}
use Rattle.bound_tree.specs.declared.marks.Marks.{Marks}
use Rattle.bound_tree.specs.declared.rule_set.RuleSet.{RuleSet}
use Rattle.bound_tree.specs.RuleSets.{none, with_if}
use Rattle.bound_tree.specs.Tree.{Variable, Line, Declarations, Program}
use Rattle.fixed_strings.specs.Declaring.{Tells, breaks_declared}
use Rattle.fixed_strings.specs.Given.{Quiet, breaks_given}

abbrev pub variable_rules : Declarations → (holds : ℕ → Bool) → Variable → RuleSet
variable_rules D holds v = with_if none 12 (breaks_declared D holds v)

-- the sets of variables, by a test that tells which user types hold a fixed string
abbrev pub AreBroken : Declarations → List RuleSet → Type 0
AreBroken D sets = (holds : ℕ → Bool) × Tells D holds × (sets ≡ map (variable_rules D holds) D.vars)

abbrev pub line_rules : Quiet → Line → RuleSet
line_rules quiet l = with_if none 12 (breaks_given quiet l)

-- for each procedure the sets of its code lines
abbrev pub lines_rules : Program → Quiet → List (List RuleSet)
lines_rules P quiet = map (map (line_rules quiet)) P.bodies

-- marks of code lines and variables alone
abbrev pub HasNoOthers : Marks → Type 0
HasNoOthers m = (m.heads ≡ []) × (m.consts ≡ []) × (m.types ≡ []) × (m.enums ≡ [])
