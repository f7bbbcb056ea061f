use Rattle.std.proofs.Common.{◌≡◌, drop}
use Rattle.array_bounds.specs.Declaring.{last_of, last_or}
use Rattle.array_bounds.proofs.declaring.last_of.Given as goal

abbrev pub invariant-loop-v : goal.invariant-loop-v
invariant-loop-v l = last_of l.params ≡ last_or l.last (drop l.v-index l.params)
