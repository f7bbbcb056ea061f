use Rattle.std.proofs.Common.{◌≡◌, map, drop}
use Rattle.vb_tree.specs.View.{member_of}
use Rattle.written_trees.specs.Placing.{behind_members}
use Rattle.written_members.specs.View.{numbers_of}
use Rattle.written_members.proofs.placing.behind_members.Given as goal

abbrev pub invariant-loop-member : goal.invariant-loop-member
invariant-loop-member l =
    behind_members (numbers_of l.numbers) (map member_of (drop l.member-index l.members)) ≡ behind_members (numbers_of l.fn.at) (map member_of l.members)
