use Rattle.std.proofs.Common.{◌≡◌, map, take}
use Rattle.name_places.specs.Places.{keyed}
use Rattle.declared_names.specs.Rivals.{local_row}
use Rattle.declared_names.proofs.rivals.local_rows.Given as goal

abbrev pub invariant-loop-e : goal.invariant-loop-e
invariant-loop-e l = map keyed l.all.items ≡ map local_row (take l.e-index l.names)
