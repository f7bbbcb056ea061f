-- The rules on objects: 7 and 13 at heads of procedures, 24 at declarations and lines.
use Rattle.std.specs.Prelude.{◌≡◌, List, [], map}
use Rattle.bound_tree.specs.declared.marks.Marks.{Marks}
use Rattle.bound_tree.specs.declared.rule_set.RuleSet.{RuleSet}
use Rattle.bound_tree.specs.RuleSets.{none, with_if}
use Rattle.bound_tree.specs.Tree.{Variable, Procedure, Line, Declarations, Program}
use Rattle.object_rules.specs.Autos.{is_auto_array}
use Rattle.object_rules.specs.Properties.{breaks_shape}
use Rattle.object_rules.specs.Terminators.{is_terminator}
use Rattle.object_rules.specs.Uses.{breaks_use}

abbrev pub head_rules : Declarations → Procedure → RuleSet
head_rules D p = with_if (with_if none 7 (breaks_shape D p)) 13 (is_terminator D p)

abbrev pub heads_rules : Declarations → List RuleSet
heads_rules D = map (head_rules D) D.procs

abbrev pub variable_rules : Variable → RuleSet
variable_rules v = with_if none 24 (is_auto_array v)

abbrev pub variables_rules : Declarations → List RuleSet
variables_rules D = map variable_rules D.vars

abbrev pub line_rules : Declarations → Line → RuleSet
line_rules D l = with_if none 24 (breaks_use D l)

-- for each procedure the sets of its code lines
abbrev pub lines_rules : Program → List (List RuleSet)
lines_rules P = map (map (line_rules P.declarations)) P.bodies

-- marks of code lines, heads and variables alone
abbrev pub HasNoOthers : Marks → Type 0
HasNoOthers m = (m.consts ≡ []) × (m.types ≡ []) × (m.enums ≡ [])
