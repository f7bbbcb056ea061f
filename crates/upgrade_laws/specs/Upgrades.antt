-- What is made of a project, as the laws on runs see it.
use Rattle.std.specs.Prelude.{◌≡◌, ◌<◌, ◌↔◌, ℕ, Bool, true, List, length}
use Rattle.vb_tree.specs.Tree.{Project}
use Rattle.vb_tree.specs.View as source
use Rattle.reach_table.specs.Chains.{is_marked}
use Rattle.bound_tree.specs.declared.body.Bound.{Bound}
use Rattle.bound_tree.specs.declared.marks.Marks.{Marks}
use Rattle.bound_tree.specs.Tree.{Program}
use Rattle.bound_tree.specs.View.{program_of}
use Rattle.bound_facts.specs.Clean.{IsClean}
use Rattle.net_tree.specs.View.{project_of}
use Rattle.broken_rules.specs.declared.passes.Found.{Found}
use Rattle.broken_rules.specs.Broken.{AreBroken}
use Rattle.broken_rules.specs.Marks.{all_marks}
use Rattle.broken_rules.specs.View.{AreFound, IsBoundTo, passes_of}
use Rattle.byref_analysis.specs.Tests.{Tells}
use Rattle.written_facts.specs.United.{AreUnited}
use Rattle.written_trees.specs.Projects.{written_project}
use Rattle.project_upgrade.specs.declared.upgrade.Upgraded.{Upgraded}
use Rattle.project_upgrade.specs.Upgrades.{AreFactsOf, count_true}
use Rattle.run_matches.specs.Upgrades.{Upgrade}
use Rattle.run_statements.specs.Written.{IsWritten}

-- how many procedures are clean by marks
pub record CountsClean (P : Program) (M : Marks) (n : ℕ) : Type 0 where
  pub flags : List Bool
  pub counted : length flags ≡ length P.declarations.procs
  pub tell : (p : ℕ) → p < length flags → (is_marked flags p ≡ true) ↔ IsClean P M p
  pub count : n ≡ count_true flags

-- A project is bound to a program, and by what the passes tell of that the written project is what is made of it. The procedures that
-- are clean by the marks of all passes together are those that are counted.
pub record UpgradeOf (P : Project) (u : Upgraded) : Type 0 where
  pub bound : Bound
  pub is_bound : IsBoundTo P bound
  pub found : Found
  pub are_found : AreFound (program_of bound) found
  pub upgrade : Upgrade
  pub program : upgrade.program ≡ program_of bound
  pub read : source.project_of bound.declared.project ≡ P
  pub project : upgrade.program.declarations.project ≡ P
  pub known : Tells upgrade.program upgrade.known
  pub facts : AreFactsOf upgrade.program (all_marks (passes_of bound found)) upgrade.facts
  pub united : AreUnited (all_marks (passes_of bound found)) upgrade.facts.marks
  pub tree : project_of u.tree ≡ upgrade.written
  pub exact : upgrade.written ≡ written_project upgrade.program upgrade.facts
  pub is_written : IsWritten upgrade
  pub clean : CountsClean upgrade.program upgrade.facts.marks u.clean

-- The issues of a project are its broken rules, and by what breaks them the written project is what is made of it.
pub record Parts (P : Project) (u : Upgraded) : Type 0 where
  pub broken : AreBroken P u.issues
  pub upgrade : Upgrade
  pub program : upgrade.program ≡ broken.program
  pub marks : AreUnited (all_marks broken.passes) upgrade.facts.marks
  pub tree : project_of u.tree ≡ upgrade.written
  pub is_written : IsWritten upgrade
