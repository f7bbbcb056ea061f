use Rattle.std.proofs.Common.{◌∙◌, ap, map}
use Rattle.name_tables.specs.Scopes.{is_local}
use Rattle.name_tables.specs.Places.{keyed}
use Rattle.name_tables.specs.Rows.{local_row}
use Rattle.name_tables.proofs.TableRows.{local_at, rows_placed}
use Rattle.name_tables.proofs.tables.local_places.Goals as goal

pub returns : goal.returns
returns c = λ p key.
    c.in_ok-places_of.ensures p.0 key
    ∙ rows_placed p.0 key c.deref.result.now local_row c.args.names.now (is_local p key) (ap (map keyed) c.deref.ensures.value ∙ c.in_ok-rows.ensures) (local_at p key)
