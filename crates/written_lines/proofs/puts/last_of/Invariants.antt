use Rattle.std.proofs.Common.{◌≡◌, take}
use Rattle.written_trees.specs.Puts.{last_of}
use Rattle.written_lines.proofs.puts.last_of.Given as goal

abbrev pub invariant-loop-v : goal.invariant-loop-v
invariant-loop-v l = l.last ≡ last_of (take l.v-index l.variables)
