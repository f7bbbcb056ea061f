use Rattle.std.proofs.Common.{◌∙◌, ap, map}
use Rattle.name_tables.specs.EventView.{event_shown}
use Rattle.name_tables.specs.Scopes.{is_own_event}
use Rattle.name_tables.specs.Places.{keyed}
use Rattle.name_tables.specs.Rows.{own_event_row}
use Rattle.name_tables.proofs.TableRows.{own_event_at, rows_placed}
use Rattle.name_tables.proofs.tables.own_event_places.Goals as goal

pub returns : goal.returns
returns c = λ file key.
    c.in_ok-places_of.ensures file key
    ∙ rows_placed file key c.deref.result.now own_event_row (map event_shown c.args.events.now) (is_own_event file key) (ap (map keyed) c.deref.ensures.value ∙ c.in_ok-rows.ensures) (own_event_at file key)
