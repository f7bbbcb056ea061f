-- What is made of a project: its facts decide what is written, and the marks of all passes its issues and its clean procedures.
use Rattle.std.specs.Prelude.{◌≡◌, ℕ, Bool, List, length, filter}
use Rattle.up_base.specs.declared.issue.Issue.{Issue}
use Rattle.vb_tree.specs.Tree.{Project}
use Rattle.bound_tree.specs.declared.body.Bound.{Bound}
use Rattle.bound_tree.specs.declared.marks.Marks.{Marks}
use Rattle.bound_tree.specs.Tree.{Program}
use Rattle.bound_tree.specs.View.{program_of}
use Rattle.net_tree.specs.Tree as net
use Rattle.net_tree.specs.View.{project_of}
use Rattle.broken_rules.specs.declared.passes.Found.{Found}
use Rattle.broken_rules.specs.Further.{further_issues}
use Rattle.broken_rules.specs.Marks.{all_marks}
use Rattle.broken_rules.specs.View.{AreFound, IsBoundTo, passes_of}
use Rattle.clean_procedures.specs.Verdicts.{AreClean}
use Rattle.issue_sets.specs.Marked.{AreIssues}
use Rattle.written_trees.specs.Facts.{AreFacts, Facts}
use Rattle.written_trees.specs.Projects.{written_project}
use Rattle.written_facts.specs.Statements.{form_set}
use Rattle.written_facts.specs.United.{AreUnited}
use Rattle.project_upgrade.specs.declared.upgrade.Upgraded.{Upgraded}

-- what the passes over a project tell
pub record AreFactsOf (P : Program) (ms : List Marks) (F : Facts) : Type 0 where
  pub are : AreFacts P F
  pub marks : AreUnited ms F.marks
  pub statements : (file n : ℕ) → F.statement file n ≡ form_set P.declarations.project file n

-- what is written by facts that passes tell
pub record IsWritten (P : Program) (ms : List Marks) (T : net.Project) : Type 0 where
  pub facts : Facts
  pub are_facts : AreFactsOf P ms facts
  pub exact : T ≡ written_project P facts

abbrev pub is_true : Bool → Bool
is_true flag = flag

abbrev pub count_true : List Bool → ℕ
count_true flags = length (filter is_true flags)

-- how many procedures are clean
pub record IsCleanCount (P : Program) (ms : List Marks) (n : ℕ) : Type 0 where
  pub flags : List Bool
  pub are_clean : AreClean P ms flags
  pub count : n ≡ count_true flags

-- what is made of a bound project by what the analyses find in it
pub record IsMadeOf (b : Bound) (f : Found) (further : List Issue) (u : Upgraded) : Type 0 where
  pub issues : AreIssues (program_of b) (all_marks (passes_of b f)) further u.issues
  pub procedures : u.procedures ≡ length (program_of b).declarations.procs
  pub clean : IsCleanCount (program_of b) (all_marks (passes_of b f)) u.clean
  pub tree : IsWritten (program_of b) (all_marks (passes_of b f)) (project_of u.tree)

-- what is made of a bound project
pub record IsMade (b : Bound) (further : List Issue) (u : Upgraded) : Type 0 where
  pub found : Found
  pub are_found : AreFound (program_of b) found
  pub made : IsMadeOf b found further u

-- what is made of a project with further issues
pub record IsMadeBeside (P : Project) (further : List Issue) (u : Upgraded) : Type 0 where
  pub bound : Bound
  pub is_bound : IsBoundTo P bound
  pub made : IsMade bound further u

-- What is made of a project: its declarations are found and its lines are bound; the analyses go over what is bound; what they tell
-- decides what is written, the issues and which procedures are clean.
abbrev pub IsUpgraded : Project → Upgraded → Type 0
IsUpgraded P u = IsMadeBeside P (further_issues P) u
