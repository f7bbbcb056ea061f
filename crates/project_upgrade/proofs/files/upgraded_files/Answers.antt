use Rattle.vb_tree.specs.View.{project_of}
use Rattle.project_upgrade.proofs.files.upgraded_files.Goals as goal
use Rattle.project_upgrade.proofs.Reported.{issues_have_texts}

pub files_made-requires : goal.files_made-requires
files_made-requires c = issues_have_texts (project_of c.args.project) c.in_ok-made.made.issues c.in_ok-made.ensures.issues

pub returns : goal.returns
returns c = record { made = c.in_ok-made.made; upgraded = c.in_ok-made.ensures.upgraded; are = c.in_ok-files_made.ensures }
