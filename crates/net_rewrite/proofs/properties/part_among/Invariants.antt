use Rattle.std.proofs.Common.{◌≡◌, map, drop}
use Rattle.written_trees.specs.Properties.{part_among}
use Rattle.written_members.specs.View.{placed_of, program_at, scope_at}
use Rattle.net_rewrite.proofs.properties.part_among.Given as goal

abbrev pub invariant-loop-placed : goal.invariant-loop-placed
invariant-loop-placed l =
    part_among (program_at l.site l.bodies) (scope_at l.site) l.first l.number (map placed_of l.all)
    ≡ part_among (program_at l.site l.bodies) (scope_at l.site) l.first l.number (map placed_of (drop l.placed-index l.all))
