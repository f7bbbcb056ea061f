use Rattle.std.proofs.Common.{◌≡◌, ◌++◌, map, take, not}
use Rattle.std.specs.List.{flat_map}
use Rattle.vb_tree.specs.View.{member_of}
use Rattle.name_tables.specs.EventView.{event_shown}
use Rattle.name_tables.specs.Events.{member_events}
use Rattle.name_tables.proofs.events.push_module.Given as goal

abbrev pub invariant-loop-member : goal.invariant-loop-member
invariant-loop-member l =
    map event_shown l.to.items
    ≡ map event_shown l.initial.to.items ++ flat_map (member_events l.module.file (not l.module.class)) (map member_of (take l.member-index l.module.members))
