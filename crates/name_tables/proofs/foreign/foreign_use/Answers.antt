use Rattle.std.proofs.Common.{ap, ◌∙◌}
use Rattle.std.specs.Prelude.{filter_map}
use Rattle.name_tables.specs.Homes.{foreign_at}
use Rattle.name_tables.specs.Scopes.{the_only}
use Rattle.name_tables.specs.View.{shown_declarations}
use Rattle.name_tables.proofs.HomeLists.{foreign_homes}
use Rattle.name_tables.proofs.foreign.foreign_use.Goals as goal

pub returns : goal.returns
returns c =
    c.only_foreign.ensures
    ∙ ap (λ hs. the_only (filter_map (foreign_at (shown_declarations c.args.d.now) c.args.kinds c.args.from) hs)) (c.homes.ensures ∙ c.requires.homes c.args.key.now)
    ∙ ap the_only (foreign_homes (shown_declarations c.args.d.now) c.args.kinds c.args.from c.args.key.now)
