use Rattle.std.proofs.Common.{◌≡◌, ◌++◌, take}
use Rattle.net_tree.specs.Declarations.{comments_text}
use Rattle.net_emitter.proofs.declarations.write_comments.Given as goal

abbrev pub invariant-loop-comment : goal.invariant-loop-comment
invariant-loop-comment l = l.out ≡ l.initial.out ++ comments_text l.depth (take l.comment-index l.comments)
