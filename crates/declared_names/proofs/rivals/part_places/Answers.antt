use Rattle.std.proofs.Common.{◌∙◌, ap, map}
use Rattle.name_places.specs.Places.{keyed}
use Rattle.declared_names.specs.Rivals.{member_row}
use Rattle.declared_names.specs.View.{procedure_of}
use Rattle.declared_names.proofs.FirstRivals.{rows_placed}
use Rattle.declared_names.proofs.rivals.part_places.Goals as goal

pub returns : goal.returns
returns c =
    rows_placed c.in_ok-places_of.field-0 c.deref.result.now (member_row (map procedure_of c.args.procs.now) c.args.part) c.args.names.now c.in_ok-places_of.ensures
    (ap (map keyed) c.deref.ensures.value ∙ c.in_ok-rows.ensures)
