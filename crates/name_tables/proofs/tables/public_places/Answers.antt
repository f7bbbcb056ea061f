use Rattle.std.proofs.Common.{◌∙◌, ap, map}
use Rattle.name_tables.specs.Homes.{is_public_at}
use Rattle.name_tables.specs.Places.{keyed}
use Rattle.name_tables.specs.Rows.{public_row}
use Rattle.name_tables.proofs.TableRows.{public_at, rows_placed}
use Rattle.name_tables.proofs.tables.public_places.Goals as goal

pub returns : goal.returns
returns c = λ file key.
    c.in_ok-places_of.ensures file key
    ∙ rows_placed file key c.deref.result.now public_row c.args.names.now (is_public_at file key) (ap (map keyed) c.deref.ensures.value ∙ c.in_ok-rows.ensures) (public_at file key)
