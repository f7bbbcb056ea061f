use Rattle.std.proofs.Common.{◌≡◌, ◌++◌, map, take, codes}
use Rattle.net_tree.specs.View.{param_of}
use Rattle.net_tree.specs.Spelling.{separated}
use Rattle.net_tree.specs.Declarations.{param_text}
use Rattle.net_emitter.proofs.declarations.write_params.Given as goal

abbrev pub invariant-loop-i : goal.invariant-loop-i
invariant-loop-i l = l.out ≡ l.initial.out ++ separated (codes ", ") (take l.i (map param_text (map param_of l.params)))
