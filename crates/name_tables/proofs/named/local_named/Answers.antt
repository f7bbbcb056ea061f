use Rattle.std.proofs.Common.{ap, ◌∙◌}
use Rattle.name_tables.specs.Rows.{named_at}
use Rattle.name_tables.specs.Scopes.{is_local}
use Rattle.name_tables.proofs.NamedFirsts.{named_first}
use Rattle.name_tables.proofs.named.local_named.Goals as goal

pub returns : goal.returns
returns c =
    c.named_at.ensures
    ∙ ap (named_at c.args.d.now.names.now) (c.local_place.ensures ∙ c.requires.scopes.locals c.args.procedure c.args.key.now)
    ∙ named_first (is_local c.args.procedure c.args.key.now) c.args.d.now.names.now
