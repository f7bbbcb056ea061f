use Rattle.std.proofs.Common.{◌≡◌, map, drop}
use Rattle.vb_tree.specs.View.{member_of}
use Rattle.written_trees.specs.Placing.{last_comments}
use Rattle.written_members.proofs.placing.last_comments.Given as goal

abbrev pub invariant-loop-member : goal.invariant-loop-member
invariant-loop-member l = last_comments l.rest (map member_of (drop l.member-index l.members)) ≡ last_comments l.comments (map member_of l.members)
