-- The files of a project, and the report on its issues.
use Rattle.std.specs.Prelude.{◌≡◌, ℕ, Bool, ◌||◌, cond, List, length, Option, None}
use Rattle.vb_tree.specs.Tree.{Project}
use Rattle.net_tree.specs.Tree as net
use Rattle.net_tree.specs.Text.{IsWritable, files_of}
use Rattle.net_tree.specs.View.{project_of}
use Rattle.issue_report.specs.Reports.{report_text}
use Rattle.project_upgrade.specs.declared.files.UpgradedFiles.{UpgradedFiles}
use Rattle.project_upgrade.specs.declared.upgrade.Upgraded.{Upgraded}
use Rattle.project_upgrade.specs.Upgrades.{IsUpgraded}

-- A written project as it is where a library is asked for, and a note: a library starts with no module. Where none is asked for, the
-- target is what it was.
abbrev pub with_settings : (library : Bool) → (note : Option (List ℕ)) → net.Project → net.Project
with_settings library note N =
    record { library = library || N.library; main = cond library None N.main; note = note; modules = N.modules; support = N.support }

-- what is put for what is made of a project whose files have these names
pub record AreFiles (library : Bool) (note : Option (List ℕ)) (made : Upgraded) (names : List (List ℕ)) (u : UpgradedFiles) : Type 0 where
  pub writable : IsWritable (with_settings library note (project_of made.tree))
  pub files : u.files ≡ files_of (with_settings library note (project_of made.tree))
  pub report : u.report ≡ report_text made.issues names
  pub issues : u.issues ≡ length made.issues
  pub procedures : u.procedures ≡ made.procedures
  pub clean : u.clean ≡ made.clean

-- what is put for a project whose files have these names
pub record IsUpgradedAs (library : Bool) (note : Option (List ℕ)) (names : List (List ℕ)) (P : Project) (u : UpgradedFiles) : Type 0 where
  pub made : Upgraded
  pub upgraded : IsUpgraded P made
  pub are : AreFiles library note made names u
