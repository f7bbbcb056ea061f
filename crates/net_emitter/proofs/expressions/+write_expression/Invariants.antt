use Rattle.std.proofs.Common.{◌≡◌, ◌++◌, map, take, codes}
use Rattle.net_tree.specs.Spelling.{separated}
use Rattle.net_emitter.proofs.Listed.{text_at}
use Rattle.net_emitter.proofs.expressions.+write_expression.Given as goal

abbrev pub invariant-write_arguments-loop-i : goal.invariant-write_arguments-loop-i
invariant-write_arguments-loop-i l = l.out ≡ l.initial.out ++ separated (codes ", ") (take l.i (map text_at l.arguments))
