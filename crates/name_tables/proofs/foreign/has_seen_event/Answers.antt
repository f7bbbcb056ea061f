use Rattle.std.proofs.Common.{ap, ◌∙◌}
use Rattle.std.specs.Prelude.{is_some}
use Rattle.name_tables.specs.Events.{events_of}
use Rattle.name_tables.specs.Scopes.{is_seen_event}
use Rattle.name_tables.specs.View.{shown_declarations}
use Rattle.name_tables.proofs.Firsts.{any_position}
use Rattle.name_tables.proofs.foreign.has_seen_event.Goals as goal

pub returns : goal.returns
returns c =
    c.is_some.ensures
    ∙ ap is_some (c.seen_event_place.ensures ∙ c.requires.events.seen c.args.key.now)
    ∙ any_position (is_seen_event c.args.key.now) (events_of (shown_declarations c.args.d.now).project)
