use Rattle.std.proofs.Common.{ap, ◌∙◌}
use Rattle.name_tables.specs.Rows.{named_at}
use Rattle.name_tables.specs.Scopes.{is_seen}
use Rattle.name_tables.proofs.NamedFirsts.{named_first}
use Rattle.name_tables.proofs.named.member_named.Goals as goal

pub returns : goal.returns
returns c =
    c.named_at.ensures
    ∙ ap (named_at c.args.d.now.names.now) c.member_place.ensures
    ∙ named_first (is_seen c.args.from c.args.file c.args.key.now) c.args.d.now.names.now
