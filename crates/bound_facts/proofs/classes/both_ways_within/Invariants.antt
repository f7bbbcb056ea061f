use Rattle.std.proofs.Common.{◌≡◌, take}
use Rattle.bound_facts.specs.Leading.{within, both_ways}
use Rattle.bound_facts.proofs.classes.both_ways_within.Given as goal

abbrev pub invariant-loop-p : goal.invariant-loop-p
invariant-loop-p l = l.all.items ≡ both_ways (within l.nodes (take l.p-index l.pairs))
