use Rattle.std.proofs.Common.{◌≡◌, map, take}
use Rattle.name_tables.specs.Places.{keyed}
use Rattle.name_tables.specs.Rows.{public_row}
use Rattle.name_tables.proofs.rows.public_rows.Given as goal

abbrev pub invariant-loop-e : goal.invariant-loop-e
invariant-loop-e l = map keyed l.all.items ≡ map public_row (take l.e-index l.names)
