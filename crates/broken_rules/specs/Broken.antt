-- The rules that a project breaks.
use Rattle.std.specs.Prelude.{List}
use Rattle.up_base.specs.declared.issue.Issue.{Issue}
use Rattle.vb_tree.specs.Tree.{Project}
use Rattle.bound_tree.specs.Tree.{Program}
use Rattle.issue_sets.specs.Marked.{AreIssues}
use Rattle.broken_rules.specs.Further.{further_issues}
use Rattle.broken_rules.specs.Marks.{AreMarks, Passes, all_marks}

-- Issues are those of a project: one for each rule that a code line, a declaration or another line of it breaks, in the order
-- of files, lines and rules, each once.
pub record AreBroken (P : Project) (issues : List Issue) : Type 0 where
  pub program : Program
  pub passes : Passes
  pub marks : AreMarks P program passes
  pub exact : AreIssues program (all_marks passes) (further_issues P) issues
