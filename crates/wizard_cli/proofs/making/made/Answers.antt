use Rattle.vb_tree.specs.View.{project_of}
use Rattle.wizard_cli.specs.Settings.{given_of}
use Rattle.wizard_cli.proofs.Generating.{are_numbers}
use Rattle.wizard_cli.proofs.making.made.Goals as goal

pub returns : goal.returns
returns c =
    are_numbers c.args.modules c.in_ok-name.name (project_of c.in-Ok.project) (given_of c.no_settings.result) c.in_ok-written.written c.in_ok-files.files.items c.in_ok-files.ensures.files c.in_ok-name.ensures c.no_settings.ensures
    (rw c.make-folder.ensures.files at c.in-Ok.ensures.held_project) c.in_ok-written.ensures
