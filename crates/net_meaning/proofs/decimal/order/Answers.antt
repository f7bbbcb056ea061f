use Rattle.std.proofs.Common.{◌∙◌}
use Rattle.net_meaning.proofs.Scales.{order_beyond}
use Rattle.net_meaning.proofs.decimal.order.Goals as goal

pub returns-in-None : goal.returns-in-None
returns-in-None c =
    c.cmp-in-None.ensures
    ∙ order_beyond c.args.a.mantissa c.args.a.scale c.args.b.mantissa c.args.b.scale c.max-scale.result c.max-scale.ensures
    c.requires.left c.requires.right c.in-None.ensures
