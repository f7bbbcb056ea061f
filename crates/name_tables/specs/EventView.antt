-- The name of a line that a reference to it shows.
use Rattle.name_tables.specs.declared.events.EventRef.{EventRef}
use Rattle.name_tables.specs.Events.{Event}

abbrev pub event_shown : EventRef → Event
event_shown e = record { name = e.name.now; file = e.file; seen = e.seen }
