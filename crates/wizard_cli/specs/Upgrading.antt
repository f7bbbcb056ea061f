-- What the upgrade of a project comes to before its files are put.
use Rattle.std.specs.Prelude.{◌≡◌, ℕ, List, ◌++◌, length, Option, IfSome}
use Rattle.up_base.specs.Outside.{Files}
use Rattle.vb_tree.specs.Tree.{Project}
use Rattle.net_tree.specs.Text.{IsWritable}
use Rattle.bound_tree.specs.Tree.{Program}
use Rattle.broken_rules.specs.Marks.{AreMarks, Passes, all_marks}
use Rattle.project_loader.specs.Faults.{file_names}
use Rattle.project_loader.specs.Held.{HeldProject, IsOfGrammar}
use Rattle.project_loader.specs.Loading.{ReadsAll}
use Rattle.project_upgrade.specs.Upgrades.{IsCleanCount}
use Rattle.settings_file.specs.Settings.{Given}
use Rattle.wizard_cli.specs.declared.upgrading.WrittenFiles.{WrittenFiles}
use Rattle.wizard_cli.specs.Headline.{put_order, IsUpgrade, report_of}
use Rattle.wizard_cli.specs.Settings.{AreSet, settings_names}

-- a project has so many procedures, and by the marks of the passes over its program so many of them are clean
pub record HasProcedures (P : Project) (procedures clean : ℕ) : Type 0 where
  pub program : Program
  pub passes : Passes
  pub marks : AreMarks P program passes
  pub all : procedures ≡ length program.declarations.procs
  pub are_clean : IsCleanCount program (all_marks passes) clean

-- the files of an upgrade, in the order in which they are put, how many issues there are, and how many procedures
pub record AreFiles (name : List ℕ) (P : Project) (given : Given) (u : WrittenFiles) : Type 0 where
  pub upgrade : IsUpgrade name P given u.issues
  pub writable : IsWritable upgrade.net_project
  pub files : u.files.items ≡ put_order upgrade.net_project (report_of upgrade)
  pub has_procedures : HasProcedures P u.procedures u.clean

-- the files of the upgrade of the project that a folder holds under a name, by the settings of a file; what was read for them, by the count of calls
pub record AreToWrite (held : Option Files) (before after : Option ℕ) (name : List ℕ) (settings : Option (List ℕ)) (u : WrittenFiles) : Type 0 where
  pub project : Project
  pub given : Given
  pub told : IfSome held (λ files. AreSet files settings given × HeldProject files name project)
  pub grammar : IsOfGrammar project
  pub reads : ReadsAll before after (settings_names settings ++ file_names name project.file.entries)
  pub are : AreFiles name project given u
