use Rattle.std.proofs.Common.{◌≡◌, ◌++◌, take, codes}
use Rattle.net_tree.specs.Spelling.{separated}
use Rattle.net_emitter.proofs.names.write_library_path.Given as goal

abbrev pub invariant-loop-i : goal.invariant-loop-i
invariant-loop-i l = l.out ≡ l.initial.out ++ separated (codes ".") (take l.i l.names)
