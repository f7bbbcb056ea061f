use Rattle.std.proofs.Common.{◌∙◌}
use Rattle.net_rewrite.proofs.Positions.{part_position}
use Rattle.net_rewrite.proofs.properties.part_in.Goals as goal

pub returns : goal.returns
returns c = c.place_in.ensures ∙ part_position c.args.first c.args.kind c.args.procs.now
