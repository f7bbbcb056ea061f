-- What is written for a project by settings, and that it does the same.
use Rattle.std.specs.Prelude.{◌≡◌, ◌-◌, ℕ, List, [], ◌∷◌, ◌++◌, map, insert, take, length, codes, All, Option, Some, slice_get}
use Rattle.up_base.specs.Outside.{Files, ChangesOnly, LeavesPrefix}
use Rattle.up_base.specs.declared.issue.Issue.{Issue}
use Rattle.vb_tree.specs.Tree.{Project}
use Rattle.net_tree.specs.Tree as net
use Rattle.net_tree.specs.Text.{files_of, NetText}
use Rattle.broken_rules.specs.Broken.{AreBroken}
use Rattle.broken_rules.specs.Marks.{all_marks}
use Rattle.issue_report.specs.Reports.{report_text}
use Rattle.project_loader.specs.Held.{HeldProject}
use Rattle.project_loader.specs.Faults.{file_names}
use Rattle.project_upgrade.specs.Files.{with_settings}
use Rattle.settings_file.specs.Settings.{Given}
use Rattle.wizard_cli.specs.Settings.{AreSet}
use Rattle.written_facts.specs.United.{AreUnited}
use Rattle.written_trees.specs.Projects.{written_project}
use Rattle.run_matches.specs.Upgrades.{Upgrade}
use Rattle.run_statements.specs.Written.{SameLines, SameRuns}
use Rattle.correspondence.specs.Corresponds.{FilesCorrespond}

-- ---- the written project

-- N is what is written for a project with these issues. They are the rules that the project breaks, and what is clean is so by them. What is
-- written corresponds to the project part by part. A code line that is clean by itself, and a clean procedure, does the same in what is
-- written for it, where it is covered. N has the target and the note that are set; for the rest it is what the meanings speak of.
pub record IsTranslation (P : Project) (given : Given) (issues : List Issue) (N : net.Project) : Type 0 where
  pub broken : AreBroken P issues
  pub upgrade : Upgrade
  pub program : upgrade.program ≡ broken.program
  pub marks : AreUnited (all_marks broken.passes) upgrade.facts.marks
  pub written : N ≡ with_settings given.library given.note upgrade.written
  pub is_written : upgrade.written ≡ written_project upgrade.program upgrade.facts
  pub files_correspond : FilesCorrespond upgrade
  pub same_lines : SameLines upgrade upgrade.facts.marks
  pub same_runs : SameRuns upgrade upgrade.facts.marks

-- ---- files

-- the name of a file in the folder of written files
abbrev pub in_folder : List ℕ → List ℕ
in_folder name = codes "upgraded/" ++ name

-- a file, moved into that folder
abbrev pub moved : List ℕ × List ℕ → List ℕ × List ℕ
moved f = (in_folder f.0, f.1)

abbrev pub report_file : (report : List ℕ) → List ℕ × List ℕ
report_file report = (in_folder (codes "Upgrade.txt"), report)

-- All files that are written for a project, by name, in the order in which they are put: those that stand for it, with
-- the report before the last, which is the response file.
abbrev pub put_order : net.Project → (report : List ℕ) → List (List ℕ × List ℕ)
put_order N report = insert (map moved (files_of N)) (length (files_of N) - 1) (report_file report)

-- after is before, with these files put one after the other
abbrev pub PutAll : List (List ℕ × List ℕ) → Files → Files → Type 0
PutAll [] before after = (n : List ℕ) → after n ≡ before n
PutAll (f ∷ more) before after =
    (between : Files) × (between f.0 ≡ Some f.1) × ChangesOnly f.0 before between × PutAll more between after

-- After is before with the first k of these files put, and the next one absent or cut short.
pub record PutUpTo (files : List (List ℕ × List ℕ)) (k : ℕ) (before after : Files) : Type 0 where
  pub between : Files
  pub whole : PutAll (take k files) before between
  pub last : List ℕ × List ℕ
  pub is_last : slice_get files k ≡ Some last
  pub cut : LeavesPrefix last.0 last.1 between after

-- the folder of written files holds each of these files
abbrev pub HoldsAll : List (List ℕ × List ℕ) → Files → Type 0
HoldsAll written files = All (λ f. files (in_folder f.0) ≡ Some f.1) written

-- the folder holds these files, by their whole names
abbrev pub HoldFiles : List (List ℕ × List ℕ) → Files → Type 0
HoldFiles [] held = Unit {0}
HoldFiles (f ∷ more) held = (held f.0 ≡ Some f.1) × HoldFiles more held

-- ---- upgrades

-- What is written for the project under a name by settings: a translation of it, and its issues, of which there are so many.
pub record IsUpgrade (name : List ℕ) (P : Project) (given : Given) (count : ℕ) : Type 0 where
  pub net_project : net.Project
  pub issues : List Issue
  pub translation : IsTranslation P given issues net_project
  pub count_is : count ≡ length issues

-- the report of an upgrade
abbrev pub report_of : {name : List ℕ} {P : Project} {given : Given} {count : ℕ} → IsUpgrade name P given count → List ℕ
report_of {name} {P} u = report_text u.issues (file_names name P.file.entries)

-- The project under this name was upgraded by the settings of a file: the outlet holds the files that stand for a translation of it, and the
-- report; nothing else in the outlet changed.
pub record IsUpgraded (files : Files) (name : List ℕ) (settings : Option (List ℕ)) (count : ℕ) (before after : Files) : Type 0 where
  pub project : Project
  pub held : HeldProject files name project
  pub given : Given
  pub set : AreSet files settings given
  pub upgrade : IsUpgrade name project given count
  pub net_files : List (List ℕ × List ℕ)
  pub text : NetText upgrade.net_project net_files
  pub stand : HoldsAll net_files after
  pub report : after (in_folder (codes "Upgrade.txt")) ≡ Some (report_of upgrade)
  pub only : PutAll (put_order upgrade.net_project (report_of upgrade)) before after
