use Rattle.std.proofs.Common.{◌≡◌, map, take}
use Rattle.name_tables.specs.EventView.{event_shown}
use Rattle.name_tables.specs.Places.{keyed}
use Rattle.name_tables.specs.Rows.{seen_event_row}
use Rattle.name_tables.proofs.rows.seen_event_rows.Given as goal

abbrev pub invariant-loop-e : goal.invariant-loop-e
invariant-loop-e l = map keyed l.all.items ≡ map seen_event_row (map event_shown (take l.e-index l.events))
