use Rattle.std.proofs.Common.{◌≡◌, ◌++◌, length, drop}
use Rattle.declared_names.specs.Declaring.{ids}
use Rattle.declared_names.proofs.procedures.var_ids.Given as goal

abbrev pub invariant-loop-item : goal.invariant-loop-item
invariant-loop-item g l = l.all ++ ids l.next (length (drop l._item-index l.items)) ≡ ids l.first (length l.items)
