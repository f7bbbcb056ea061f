use Rattle.std.proofs.Common.{take}
use Rattle.up_base.specs.Windows1252.{AreUnits}
use Rattle.up_base.proofs.windows_1252.decode_1252.Given as goal

abbrev pub invariant-loop-place : goal.invariant-loop-place
invariant-loop-place l = AreUnits (take l.place l.bytes) l.units.items
