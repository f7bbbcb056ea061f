use Rattle.std.proofs.Common.{sym, ◌∙◌}
use Rattle.net_tree.specs.View.{project_of}
use Rattle.net_writable.proofs.Decided.{written, passes}
use Rattle.net_writable.proofs.project.is_writable.Goals as goal

pub returns-clause-sound : goal.returns-clause-sound
returns-clause-sound c = λ yes. written (project_of c.args.project.now) (sym c.in_ok-is_writable_project.ensures ∙ yes)

pub returns-clause-complete : goal.returns-clause-complete
returns-clause-complete c = λ writable. c.in_ok-is_writable_project.ensures ∙ passes (project_of c.args.project.now) writable
