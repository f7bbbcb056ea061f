use Rattle.std.proofs.Common.{ap, ◌∙◌}
use Rattle.std.specs.Prelude.{is_some}
use Rattle.name_tables.specs.Events.{events_of}
use Rattle.name_tables.specs.Scopes.{is_own_event}
use Rattle.name_tables.specs.View.{shown_declarations}
use Rattle.name_tables.proofs.Firsts.{any_position}
use Rattle.name_tables.proofs.foreign.has_own_event.Goals as goal

pub returns : goal.returns
returns c =
    c.is_some.ensures
    ∙ ap is_some (c.own_event_place.ensures ∙ c.requires.events.own c.args.file c.args.key.now)
    ∙ any_position (is_own_event c.args.file c.args.key.now) (events_of (shown_declarations c.args.d.now).project)
