use Rattle.std.proofs.Common.{ap, ◌∙◌}
use Rattle.reach_table.specs.Chains.{is_marked}
use Rattle.declarations.proofs.Circling.{leads_back}
use Rattle.declarations.proofs.circles.leads_back.Goals as goal

pub returns : goal.returns
returns c =
    leads_back c.args.types c.args.pairs.now c.args.pair c.is_at.result c.in_ok-leads.leads.items
    (c.is_at.ensures ∙ ap (λ ms. is_marked ms c.args.pair.1) c.deref.ensures.value) (c.in_ok-leads.ensures c.args.pair.1)
