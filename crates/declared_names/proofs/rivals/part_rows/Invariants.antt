use Rattle.std.proofs.Common.{◌≡◌, map, take}
use Rattle.name_places.specs.Places.{keyed}
use Rattle.declared_names.specs.Rivals.{member_row}
use Rattle.declared_names.specs.View.{procedure_of}
use Rattle.declared_names.proofs.rivals.part_rows.Given as goal

abbrev pub invariant-loop-e : goal.invariant-loop-e
invariant-loop-e l = map keyed l.all.items ≡ map (member_row (map procedure_of l.procs) l.part) (take l.e-index l.names)
