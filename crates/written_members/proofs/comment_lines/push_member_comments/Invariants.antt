use Rattle.std.proofs.Common.{◌≡◌, ◌++◌, map}
use Rattle.net_tree.specs.View.{member_of}
use Rattle.written_trees.specs.DeclaredMembers.{member_comments}
use Rattle.written_members.proofs.comment_lines.push_member_comments.Given as goal

abbrev pub invariant-loop-text : goal.invariant-loop-text
invariant-loop-text l =
    map member_of l.to.items ++ member_comments l.text-iterator.rest.items ≡ map member_of l.initial.to.items ++ member_comments l.fn.units.items
