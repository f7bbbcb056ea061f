use Rattle.std.proofs.Common.{◌≡◌, ◌++◌, map, drop}
use Rattle.vb_tree.specs.View.{member_of}
use Rattle.written_trees.specs.Placing.{placed_members}
use Rattle.written_members.specs.View.{numbers_of, placed_of}
use Rattle.written_members.proofs.placing.placed_members.Given as goal

abbrev pub invariant-loop-member : goal.invariant-loop-member
invariant-loop-member l =
    map placed_of l.all.items ++ placed_members (numbers_of l.numbers) l.rest (map member_of (drop l.member-index l.members))
    ≡ placed_members (numbers_of l.fn.at) l.comments (map member_of l.members)
