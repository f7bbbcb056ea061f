use Rattle.std.proofs.Common.{◌≡◌, replicate}
use Rattle.declarations.proofs.presets.no_units.Given as goal

abbrev pub invariant-loop-unit : goal.invariant-loop-unit
invariant-loop-unit l = l.units ≡ replicate l._unit 0
