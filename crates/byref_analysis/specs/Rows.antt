-- The rules on references: 7 at heads of properties, 8 and 26 at code lines; and what is found of a project.
use Rattle.std.specs.Prelude.{◌≡◌, ◌↔◌, ℕ, Bool, false, cond, nat_eq, List, [], map}
use Rattle.std.specs.List.{AllPairs, Contains}
use Rattle.reach_table.specs.Table.{IsBefore}
use Rattle.vb_tree.specs.declared.declared.ProcId.{ProcId}
use Rattle.bound_tree.specs.declared.facts.RefFacts.{RefFacts}
use Rattle.bound_tree.specs.declared.marks.Marks.{Marks}
use Rattle.bound_tree.specs.declared.rule_set.RuleSet.{RuleSet}
use Rattle.bound_tree.specs.RuleSets.{none, with_if}
use Rattle.bound_tree.specs.Tree.{Expr, Line, Procedure, Declarations, Program}
use Rattle.bound_facts.specs.Calls.{calls}
use Rattle.bound_facts.specs.Facts.{Known, is_quiet, stirs}
use Rattle.byref_analysis.specs.Arguments.{breaks_arguments}
use Rattle.byref_analysis.specs.Order.{breaks_order}
use Rattle.byref_analysis.specs.Properties.{breaks_head, is_open_property}
use Rattle.byref_analysis.specs.Quiet.{inward_flags, quiet_flags}

-- whether a code line breaks a rule
abbrev pub breaks : Declarations → (quiet : ℕ → Bool) → (stirs : Expr → Bool) → Line → (rule : ℕ) → Bool
breaks D quiet stirs l rule =
    cond (nat_eq rule 8) (breaks_arguments D.procs quiet stirs l) (cond (nat_eq rule 26) (breaks_order D stirs l) false)

-- the set of these rules
abbrev pub rules_of : Declarations → (quiet : ℕ → Bool) → (stirs : Expr → Bool) → Line → RuleSet
rules_of D quiet stirs l = with_if (with_if none 8 (breaks_arguments D.procs quiet stirs l)) 26 (breaks_order D stirs l)

-- for each procedure the sets of its code lines
abbrev pub lines_rules : Program → (quiet : ℕ → Bool) → (stirs : Expr → Bool) → List (List RuleSet)
lines_rules P quiet stirs = map (map (rules_of P.declarations quiet stirs)) P.bodies

abbrev pub head_rules : (opens : ℕ → Bool) → Procedure → RuleSet
head_rules opens p = with_if none 7 (breaks_head opens p)

-- the sets of the heads of procedures
abbrev pub heads_rules : Declarations → (quiet : ℕ → Bool) → List RuleSet
heads_rules D quiet = map (head_rules (is_open_property D quiet)) D.procs

-- what is found is what the facts tell
pub record AreFound (P : Program) (F : Known) (f : RefFacts) : Type 0 where
  pub inward : f.inward ≡ inward_flags F.outward P.declarations.procs
  pub quiet : f.quiet ≡ quiet_flags (is_quiet P.declarations F) P.declarations.procs
  pub lines : f.marks.lines ≡ lines_rules P (is_quiet P.declarations F) (stirs P.declarations F)
  pub heads : f.marks.heads ≡ heads_rules P.declarations (is_quiet P.declarations F)

-- ---- the calls

abbrev pub numbers_of : ProcId × ProcId → ℕ × ℕ
numbers_of p = (p.0.0, p.1.0)

-- in ascending order, each once, and exactly the pairs of which the first leads directly to the second
pub record AreCalls (P : Program) (found : List (ProcId × ProcId)) : Type 0 where
  pub sorted : AllPairs IsBefore (map numbers_of found)
  pub exact : (p : ℕ × ℕ) → Contains (map numbers_of found) p ↔ Contains (calls P) p

-- marks of code lines and heads alone
abbrev pub HasNoOthers : Marks → Type 0
HasNoOthers m = (m.vars ≡ []) × (m.consts ≡ []) × (m.types ≡ []) × (m.enums ≡ [])
