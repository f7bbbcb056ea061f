use Rattle.std.proofs.Common.{◌≡◌, take}
use Rattle.written_trees.specs.Comments.{texts}
use Rattle.written_members.proofs.comments.texts.Given as goal

abbrev pub invariant-loop-comment : goal.invariant-loop-comment
invariant-loop-comment l = l.all.items ≡ texts (take l.comment-index l.comments)
