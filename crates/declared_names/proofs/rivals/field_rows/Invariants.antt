use Rattle.std.proofs.Common.{◌≡◌, map, take}
use Rattle.name_places.specs.Places.{keyed}
use Rattle.declared_names.specs.Rivals.{field_row}
use Rattle.declared_names.specs.View.{variable_of}
use Rattle.declared_names.proofs.rivals.field_rows.Given as goal

abbrev pub invariant-loop-v : goal.invariant-loop-v
invariant-loop-v l = map keyed l.all.items ≡ map field_row (map variable_of (take l.v-index l.vars))
