use Rattle.std.proofs.Common.{◌≡◌, ◌++◌, length, drop}
use Rattle.declared_names.specs.Declaring.{const_ids}
use Rattle.declared_names.proofs.groups.const_ids.Given as goal

abbrev pub invariant-loop-item : goal.invariant-loop-item
invariant-loop-item g l = l.all ++ const_ids l.next (length (drop l._item-index l.items)) ≡ const_ids l.first (length l.items)
