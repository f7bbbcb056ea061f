use Rattle.std.proofs.Common.{◌≡◌, map, take}
use Rattle.name_places.specs.Places.{keyed}
use Rattle.declared_names.specs.Rivals.{property_row}
use Rattle.declared_names.specs.View.{procedure_of}
use Rattle.declared_names.proofs.parts.property_rows.Given as goal

abbrev pub invariant-loop-procedure : goal.invariant-loop-procedure
invariant-loop-procedure l = map keyed l.all.items ≡ map property_row (map procedure_of (take l.procedure-index l.procs))
