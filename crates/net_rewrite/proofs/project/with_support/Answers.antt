use Rattle.bound_tree.specs.View.{program_of}
use Rattle.written_rows.specs.View.{facts_of}
use Rattle.net_rewrite.proofs.Projects.{project_is}
use Rattle.net_rewrite.proofs.project.with_support.Goals as goal

pub returns-in-Ok : goal.returns-in-Ok
returns-in-Ok c =
    let made = c.joined.ensures in
    project_is (program_of c.args.bound.now) (facts_of c.args.facts.now) c.joined.result c.args.main c.deref.result.now c.args.modules.items c.in-Ok.support
    c.deref.ensures.value c.requires.main c.requires.modules c.in-Ok.ensures
    made.library made.main made.note made.modules made.support
