use Rattle.std.proofs.Common.{◌≡◌, ◌++◌, map}
use Rattle.net_tree.specs.View.{line_of}
use Rattle.written_trees.specs.DeclaredMembers.{line_comments}
use Rattle.written_members.proofs.comment_lines.push_line_comments.Given as goal

abbrev pub invariant-loop-text : goal.invariant-loop-text
invariant-loop-text l =
    map line_of l.to.items ++ line_comments l.text-iterator.rest.items ≡ map line_of l.initial.to.items ++ line_comments l.fn.units.items
