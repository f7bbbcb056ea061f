use Rattle.std.proofs.Common.{◌≡◌, ◌++◌, map, take}
use Rattle.std.specs.List.{flat_map}
use Rattle.net_tree.specs.View.{member_of}
use Rattle.written_trees.specs.Members.{written_member}
use Rattle.written_members.specs.View.{placed_of, program_at, scope_at}
use Rattle.net_rewrite.proofs.members.push_placed.Given as goal

abbrev pub invariant-loop-placed : goal.invariant-loop-placed
invariant-loop-placed l =
    map member_of l.to.items
    ≡ map member_of l.initial.to.items ++ flat_map (written_member (program_at l.site l.bodies) (scope_at l.site) (map placed_of l.all)) (map placed_of (take l.placed-index l.all))
