-- The rules on arrays, 9, 10 and 11, at lines, at heads of procedures and at declarations.
use Rattle.std.specs.Prelude.{◌≡◌, ℕ, suc, List, [], ◌∷◌, map}
use Rattle.bound_tree.specs.declared.marks.Marks.{Marks}
use Rattle.bound_tree.specs.declared.rule_set.RuleSet.{RuleSet}
use Rattle.bound_tree.specs.RuleSets.{none, with_if}
use Rattle.bound_tree.specs.Tree.{Variable, Procedure, Line, Declarations, Program}
use Rattle.array_bounds.specs.Declaring.{splits_variable, breaks_variable, breaks_head}
use Rattle.array_bounds.specs.Elements.{breaks_forms}
use Rattle.array_bounds.specs.Facts.{AreFacts}
use Rattle.array_bounds.specs.Known.{Known}
use Rattle.array_bounds.specs.Locking.{breaks_locks}
use Rattle.array_bounds.specs.Resizing.{breaks_lows}

abbrev pub line_rules : Declarations → Known → Line → RuleSet
line_rules D F l = with_if (with_if (with_if none 9 (breaks_lows l)) 10 (breaks_locks D F l)) 11 (breaks_forms D F l)

abbrev pub head_rules : Declarations → Known → Procedure → RuleSet
head_rules D F p = with_if none 11 (breaks_head D F p)

abbrev pub variable_rules : Known → ℕ → Variable → RuleSet
variable_rules F k v = with_if (with_if none 9 (splits_variable F k v)) 11 (breaks_variable F k v)

-- those of variables that are numbered from k
abbrev pub variables_rules : Known → ℕ → List Variable → List RuleSet
variables_rules F k [] = []
variables_rules F k (v ∷ vs) = variable_rules F k v ∷ variables_rules F (suc k) vs

-- marks by facts
pub record AreMarksOf (P : Program) (F : Known) (m : Marks) : Type 0 where
  pub lines : m.lines ≡ map (map (line_rules P.declarations F)) P.bodies
  pub heads : m.heads ≡ map (head_rules P.declarations F) P.declarations.procs
  pub vars : m.vars ≡ variables_rules F 0 P.declarations.vars
  pub consts : m.consts ≡ []
  pub types : m.types ≡ []
  pub enums : m.enums ≡ []

-- the marks of a project, by its facts
abbrev pub AreMarks : Program → Marks → Type 0
AreMarks P m = (F : Known) × AreFacts P F × AreMarksOf P F m
