use Rattle.std.proofs.Common.{◌∙◌, ap, map}
use Rattle.name_tables.specs.EventView.{event_shown}
use Rattle.name_tables.specs.Scopes.{is_seen_event}
use Rattle.name_tables.specs.Places.{keyed}
use Rattle.name_tables.specs.Rows.{seen_event_row}
use Rattle.name_tables.proofs.TableRows.{seen_event_at, rows_placed}
use Rattle.name_tables.proofs.tables.seen_event_places.Goals as goal

pub returns : goal.returns
returns c = λ key.
    c.in_ok-places_of.ensures 0 key
    ∙ rows_placed 0 key c.deref.result.now seen_event_row (map event_shown c.args.events.now) (is_seen_event key) (ap (map keyed) c.deref.ensures.value ∙ c.in_ok-rows.ensures) (seen_event_at key)
