use Rattle.std.proofs.Common.{◌≡◌, ◌++◌, map, take, codes}
use Rattle.net_tree.specs.Spelling.{separated, name_text}
use Rattle.net_emitter.proofs.names.write_own_path.Given as goal

abbrev pub invariant-loop-i : goal.invariant-loop-i
invariant-loop-i l = l.out ≡ l.initial.out ++ separated (codes ".") (take l.i (map name_text l.names))
