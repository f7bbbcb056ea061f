use Rattle.std.proofs.Common.{take}
use Rattle.name_tables.specs.Homes.{AreNumbers}
use Rattle.name_tables.proofs.homes.enum_members.Given as goal

abbrev pub invariant-loop-e : goal.invariant-loop-e
invariant-loop-e l = AreNumbers l.all (take l.e-index l.enums)
