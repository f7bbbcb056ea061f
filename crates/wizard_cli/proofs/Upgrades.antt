-- What stands in the outlet after all files of an upgrade were put.
use Rattle.std.proofs.Common.{◌≡◌, ℕ, ◌+◌, ◌-◌, List, [], ◌∷◌, map, length, insert, Option, Some, None, refl, sym, ap, ◌∙◌, subst}
use Rattle.std.specs.Prelude.{◌≤◌, true, IfSome}
use Rattle.std.specs.List.{list_all}
use Rattle.up_base.specs.Outside.{Files, IfTold}
use Rattle.up_base.specs.declared.issue.Issue.{Issue}
use Rattle.vb_tree.specs.declared.project.Entry.{Entry}
use Rattle.vb_tree.specs.Tree.{Module, Project}
use Rattle.bound_tree.specs.Tree.{Program}
use Rattle.net_tree.specs.Text.{files_of, IsWritable}
use Rattle.net_tree.specs.Tree as net
use Rattle.net_tree.specs.View.{project_of}
use Rattle.project_loader.specs.Faults.{file_names}
use Rattle.project_loader.specs.Held.{HeldProject, IsOfGrammar}
use Rattle.written_trees.specs.Facts.{Facts}
use Rattle.written_trees.specs.Placing.{Numbers, behind_members}
use Rattle.written_trees.specs.Projects.{modules_from, next_module, first_numbers, written_project}
use Rattle.project_upgrade.specs.declared.files.UpgradedFiles.{UpgradedFiles}
use Rattle.project_upgrade.specs.Files.{IsUpgradedAs, with_settings}
use Rattle.project_upgrade.specs.Upgrades.{IsCleanCount}
use Rattle.broken_rules.specs.Marks.{all_marks}
use Rattle.settings_file.specs.Settings.{Given}
use Rattle.wizard_cli.specs.declared.answer.Answer.{Answer}
use Rattle.wizard_cli.specs.declared.answer.Answer.TheVariants.{Done, Same, Differs, Made, Rules, BadWords, SettingsRefused, Refused, ReadFault, WriteFault, OutOfMemory}
use Rattle.wizard_cli.specs.Headline.{put_order, moved, report_file, PutAll, IsTranslation, IsUpgrade, IsUpgraded, report_of}
use Rattle.wizard_cli.specs.Runs.{Told, Translates, UpgradeAnswer}
use Rattle.wizard_cli.specs.Settings.{AreSet}
use Rattle.wizard_cli.specs.Steps.{PutAnswer}
use Rattle.wizard_cli.specs.declared.upgrading.WrittenFiles.{WrittenFiles}
use Rattle.wizard_cli.specs.Upgrading.{AreFiles, AreToWrite}
use Rattle.wizard_cli.proofs.Apart.{NamedAs, put_apart, put_stand}
use Rattle.wizard_cli.proofs.Grammar.{AreOf, entries_are_apart, modules_are_of}
use Rattle.wizard_cli.proofs.Named.{folder_names, has_folder_name, some_files}
use Rattle.upgrade_laws.proofs.Settling.{broken_project}
use Rattle.wizard_cli.proofs.Translations.{has_procedures, translates}

-- ---- what is written for a project

-- the written modules have the names of the entries
modules_named : (P : Program) (F : Facts) (at : Numbers) (k : ℕ) (es : List Entry) (ms : List Module) → AreOf k es ms → NamedAs es (modules_from P F at ms)
modules_named P F at k [] [] h = tt
modules_named P F at k [] (m ∷ ms) h = absurd h
modules_named P F at k (e ∷ es) [] h = absurd h
modules_named P F at k (e ∷ es) (m ∷ ms) h = (h.0, modules_named P F (next_module (behind_members at m.members)) (k + 1) es ms h.2)

pub written_named : (P : Project) (D : Program) (F : Facts) → IsOfGrammar P → D.declarations.project ≡ P → NamedAs P.file.entries (written_project D F).modules
written_named P D F g same =
    subst (λ (p : Project). NamedAs P.file.entries (modules_from D F first_numbers p.modules)) (sym same)
    (modules_named D F first_numbers 1 P.file.entries P.modules (modules_are_of P g))

pub translation_named : (P : Project) (given : Given) (issues : List Issue) (N : net.Project) → IsOfGrammar P → (t : IsTranslation P given issues N) → NamedAs P.file.entries N.modules
translation_named P given issues N g t =
    subst (λ (n : net.Project). NamedAs P.file.entries n.modules) (sym (t.written ∙ ap (with_settings given.library given.note) t.is_written))
    (written_named P t.upgrade.program t.upgrade.facts g (ap (λ (q : Program). q.declarations.project) t.program ∙ broken_project P issues t.broken))

-- after all files of an upgrade were put, the project is upgraded
pub upgraded : (files : Files) (name : List ℕ) (settings : Option (List ℕ)) (given : Given) (P : Project) (count : ℕ) (before after : Files) → AreSet files settings given → HeldProject files name P → IsOfGrammar P → (u : IsUpgrade name P given count)
    → IsWritable u.net_project → PutAll (put_order u.net_project (report_of u)) before after → IsUpgraded files name settings count before after
upgraded files name settings given P count before after set held grammar u writable put =
    let named = translation_named P given u.issues u.net_project grammar u.translation in
    let support = ap (λ (n : net.Project). n.support.name) (u.translation.written ∙ ap (with_settings given.library given.note) u.translation.is_written) in
    let apart = put_apart u.net_project (report_of u) P.file.entries support (entries_are_apart P grammar) named in
    let stand = put_stand u.net_project (report_of u) before after apart put in
    record {
      project = P;
      held = held;
      given = given;
      set = set;
      upgrade = u;
      net_files = files_of u.net_project;
      text = record { writable = writable; are_files = refl };
      stand = stand.0;
      report = stand.1;
      only = put;
    }

told_upgraded : (held before after : Option Files) (name : List ℕ) (settings : Option (List ℕ)) (given : Given) (P : Project) (count : ℕ) → IfSome held (λ files. AreSet files settings given × HeldProject files name P) → IsOfGrammar P → (u : IsUpgrade name P given count)
    → IsWritable u.net_project → IfTold before after (PutAll (put_order u.net_project (report_of u))) → IfSome held (λ files. IfTold before after (IsUpgraded files name settings count))
told_upgraded None before after name settings given P count h g u w put = tt
told_upgraded (Some files) before None name settings given P count h g u w put = tt
told_upgraded (Some files) None (Some after) name settings given P count h g u w put = put
told_upgraded (Some files) (Some before) (Some after) name settings given P count h g u w put = upgraded files name settings given P count before after h.0 h.1 g u w put

-- ---- steps

-- the files of what is made of a project
pub are_files : (name : List ℕ) (P : Project) (given : Given) (made : UpgradedFiles) (u : WrittenFiles) → IsOfGrammar P → IsUpgradedAs given.library given.note (file_names name P.file.entries) P made
    → u.issues ≡ made.issues → u.procedures ≡ made.procedures → u.clean ≡ made.clean → u.files.items ≡ insert (map moved made.files) (length made.files - 1) (report_file made.report) → AreFiles name P given u
are_files name P given made u grammar is count procedures clean files =
    let N : net.Project = with_settings given.library given.note (project_of is.made.tree) in
    let has = has_procedures P is.made is.upgraded in
    record {
      upgrade = record {
        net_project = N;
        issues = is.made.issues;
        translation = translates P is.made given grammar is.upgraded;
        count_is = count ∙ is.are.issues;
      };
      writable = is.are.writable;
      files =
          files
          ∙ ap (λ (fs : List (List ℕ × List ℕ)). insert (map moved fs) (length fs - 1) (report_file made.report)) is.are.files
          ∙ ap (λ (report : List ℕ). insert (map moved (files_of N)) (length (files_of N) - 1) (report_file report)) is.are.report;
      has_procedures = record {
        program = has.program;
        passes = has.passes;
        marks = has.marks;
        all = procedures ∙ is.are.procedures ∙ has.all;
        are_clean = subst (λ n. IsCleanCount has.program (all_marks has.passes) n) (sym (clean ∙ is.are.clean)) has.are_clean;
      };
    }

-- the files of what is made of a project can stand in the folder of written files
pub upgraded_named : (names : List (List ℕ)) (P : Project) (given : Given) (made : UpgradedFiles) → IsOfGrammar P → IsUpgradedAs given.library given.note names P made → list_all has_folder_name made.files ≡ true
upgraded_named names P given made grammar is =
    let N : net.Project = with_settings given.library given.note (project_of is.made.tree) in
    let t : IsTranslation P given is.made.issues N = translates P is.made given grammar is.upgraded in
    let support = ap (λ (n : net.Project). n.support.name) (t.written ∙ ap (with_settings given.library given.note) t.is_written) in
    ap (list_all has_folder_name) is.are.files ∙ folder_names P N grammar support (translation_named P given is.made.issues N grammar t)

-- and there are some
pub some_upgraded : (names : List (List ℕ)) (P : Project) (given : Given) (made : UpgradedFiles) → IsUpgradedAs given.library given.note names P made → 1 ≤ length made.files
some_upgraded names P given made is =
    subst (λ (fs : List (List ℕ × List ℕ)). 1 ≤ length fs) (sym is.are.files) (some_files (with_settings given.library given.note (project_of is.made.tree)))

-- what is to be written is the upgrade of a project that is held
abbrev pub translated : (held : Option Files) (before after : Option ℕ) (name : List ℕ) (settings : Option (List ℕ)) (u : WrittenFiles) → AreToWrite held before after name settings u → Translates held name settings u.issues
translated held before after name settings u w = record { project = w.project; given = w.given; told = w.told; upgrade = w.are.upgrade; writable = w.are.writable }

-- how the writing ended is how the upgrade did
pub ends_writing : (told : Told) (untouched : Type 0) (name : List ℕ) (settings : Option (List ℕ)) (u : WrittenFiles) (answer : Answer) → AreToWrite told.held told.reads_before told.reads_after name settings u
    → PutAnswer u.files.items u.issues told.outlet_before told.outlet_after told.puts_before told.puts_after answer → UpgradeAnswer told untouched name settings answer
ends_writing told untouched name settings u answer w put =
    by answer (subst (λ fs. PutAnswer fs u.issues told.outlet_before told.outlet_after told.puts_before told.puts_after answer) w.are.files put)
  where
    by : (answer : Answer) → PutAnswer (put_order w.are.upgrade.net_project (report_of w.are.upgrade)) u.issues told.outlet_before told.outlet_after told.puts_before told.puts_after answer → UpgradeAnswer told untouched name settings answer
    by (Done n) put =
        subst (λ k. UpgradeAnswer told untouched name settings (Done k)) (sym put.0) (
          (translated told.held told.reads_before told.reads_after name settings u w, w.reads),
          told_upgraded told.held told.outlet_before told.outlet_after name settings w.given w.project u.issues w.told w.grammar w.are.upgrade w.are.writable put.1,
        )
    by (Same n) put = absurd put
    by (Differs said) put = absurd put
    by (Made numbers) put = absurd put
    by Rules put = absurd put
    by BadWords put = absurd put
    by (SettingsRefused said) put = absurd put
    by (Refused said fault) put = absurd put
    by (ReadFault said) put = absurd put
    by (WriteFault said) put = record {
      count = u.issues;
      translates = translated told.held told.reads_before told.reads_after name settings u w;
      place = put.0;
      bytes = put.1;
      is_said = put.2;
      left = put.3;
      calls = put.4;
    }
    by OutOfMemory put = absurd put
