use Rattle.std.proofs.Common.{◌≡◌, ◌++◌, map, take}
use Rattle.vb_tree.specs.View.{declarator_of}
use Rattle.name_tables.specs.EventView.{event_shown}
use Rattle.name_tables.specs.Events.{variable_events}
use Rattle.name_tables.proofs.events.push_variables.Given as goal

abbrev pub invariant-loop-declarator : goal.invariant-loop-declarator
invariant-loop-declarator l =
    map event_shown l.to.items
    ≡ map event_shown l.initial.to.items ++ variable_events l.file l.seen (map declarator_of (take l.declarator-index l.declarators))
