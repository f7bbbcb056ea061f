use Rattle.std.proofs.Common.{◌≡◌, ◌++◌, take}
use Rattle.std.specs.List.{flat_map}
use Rattle.net_tree.specs.Literals.{quoted_unit}
use Rattle.net_emitter.proofs.literals.write_units.Given as goal

abbrev pub invariant-loop-unit : goal.invariant-loop-unit
invariant-loop-unit l = l.out ≡ l.initial.out ++ flat_map quoted_unit (take l.unit-index l.units)
