use Rattle.std.proofs.Common.{◌≡◌, map, take}
use Rattle.bound_facts.specs.Leading.{within, turned}
use Rattle.bound_facts.proofs.backward.turned_within.Given as goal

abbrev pub invariant-loop-p : goal.invariant-loop-p
invariant-loop-p l = l.all.items ≡ map turned (within l.nodes (take l.p-index l.pairs))
