use Rattle.std.proofs.Common.{◌≡◌, map, take}
use Rattle.std.specs.List.{flat_map}
use Rattle.vb_tree.specs.View.{module_of}
use Rattle.name_tables.specs.EventView.{event_shown}
use Rattle.name_tables.specs.Events.{module_events}
use Rattle.name_tables.proofs.events.events_of.Given as goal

abbrev pub invariant-loop-module : goal.invariant-loop-module
invariant-loop-module l = map event_shown l.all.items ≡ flat_map module_events (map module_of (take l.module-index l.project.modules))
