use Rattle.std.proofs.Common.{◌≡◌, ◌++◌, map}
use Rattle.net_tree.specs.View.{field_of}
use Rattle.written_trees.specs.DeclaredMembers.{field_comments}
use Rattle.written_members.proofs.comment_lines.push_field_comments.Given as goal

abbrev pub invariant-loop-text : goal.invariant-loop-text
invariant-loop-text l =
    map field_of l.to.items ++ field_comments l.text-iterator.rest.items ≡ map field_of l.initial.to.items ++ field_comments l.fn.units.items
