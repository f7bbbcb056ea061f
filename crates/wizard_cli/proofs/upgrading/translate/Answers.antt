use Rattle.std.proofs.Common.{refl, subst}
use Rattle.vb_tree.specs.View.{project_of}
use Rattle.project_loader.specs.Faults.{file_names}
use Rattle.project_upgrade.specs.Files.{IsUpgradedAs}
use Rattle.wizard_cli.specs.Settings.{given_of}
use Rattle.wizard_cli.proofs.Upgrades.{are_files, some_upgraded, upgraded_named}
use Rattle.wizard_cli.proofs.upgrading.translate.Goals as goal

pub all_files-requires-clause-some : goal.all_files-requires-clause-some
all_files-requires-clause-some c = some_upgraded _ (project_of c.args.project) (given_of c.args.settings) c.in_ok-files.field-0 c.in_ok-files.ensures

pub all_files-requires-clause-named : goal.all_files-requires-clause-named
all_files-requires-clause-named c = upgraded_named _ (project_of c.args.project) (given_of c.args.settings) c.in_ok-files.field-0 c.requires c.in_ok-files.ensures

pub returns : goal.returns
returns c =
    let made = c.in_ok-files.field-0 in
    let P = project_of c.args.project in
    let named = subst (λ names. IsUpgradedAs c.args.settings.library c.args.settings.note names P made) c.in_ok-names.ensures c.in_ok-files.ensures in
    let held = subst (λ entries. IsUpgradedAs c.args.settings.library c.args.settings.note (file_names c.args.name.now entries) P made) c.as_slice.ensures named in
    are_files c.args.name.now P (given_of c.args.settings) made _ c.requires held refl refl refl c.in_ok-all_files.ensures
