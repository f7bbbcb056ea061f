use Rattle.std.proofs.Common.{List, map, ap, ◌∙◌}
use Rattle.vb_tree.specs.View.{project_of}
use Rattle.reach_table.specs.Chains.{is_marked}
use Rattle.declared_names.specs.View.{names_of}
use Rattle.declarations.specs.declared.plans.Plan.{Plan}
use Rattle.declarations.specs.Finals.{final}
use Rattle.declarations.specs.View.{filled_by, plan_shown}
use Rattle.declarations.proofs.Completing.{declared_by}
use Rattle.declarations.proofs.stages.flagged.Goals as goal

pub returns-in-Ok-filled : goal.returns-in-Ok-filled
returns-in-Ok-filled c =
    let x = c.args.fixed.now in
    let D = filled_by x c.args.settled in
    let found = c.in-Ok.found in
    declared_by (project_of x.project.now) (names_of x.names.now) D (filled_by x c.in-Ok-filled.filled) c.in-Ok-marks_of.marks (is_marked x.members.now)
    (is_marked found.circular.items) (map plan_shown found.plans.items) found.constants.items c.requires.members c.requires.settled
    c.in-Ok.ensures.circular c.in-Ok.ensures.plans c.in-Ok.ensures.constants c.in-Ok-marks_of.ensures
    (c.in-Ok-filled.ensures ∙ ap (λ (ps : List Plan). final (is_marked x.members.now) D (map plan_shown ps) c.in-Ok-marks_of.marks) c.deref.ensures.value)
