use Rattle.std.proofs.Common.{ap, ◌∙◌}
use Rattle.net_tree.specs.View.{type_name_of}
use Rattle.net_exprs.specs.Expressions.{array_made}
use Rattle.net_exprs.specs.Stages.{array_stage, items_view, stage_view}
use Rattle.net_exprs.proofs.Staging.{last_left}
use Rattle.net_exprs.proofs.stages.array_stage.Goals as goal

pub returns-in-len1-up-clause-answers : goal.returns-in-len1-up-clause-answers
returns-in-len1-up-clause-answers c =
    let same = ap (λ stage. array_stage c.args.rest.now (array_made (stage_view stage))) c.in-Ranked.is
    ∙ last_left (type_name_of c.in-Ranked.ty) c.in-Ranked.ranks.items c.as_slice.result.now (items_view c.none.result) c.args.rest.now c.as_slice.ensures.value c.in-len1-up.len_at_least c.none.ensures.items in
    rw same c.made.ensures.answers
