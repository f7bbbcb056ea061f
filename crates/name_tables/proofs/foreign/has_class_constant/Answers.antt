use Rattle.std.proofs.Common.{ap, ◌∙◌}
use Rattle.std.specs.List.{list_any}
use Rattle.name_tables.specs.Homes.{is_class_constant}
use Rattle.name_tables.specs.View.{shown_declarations}
use Rattle.name_tables.proofs.HomeLists.{constant_homes}
use Rattle.name_tables.proofs.foreign.has_class_constant.Goals as goal

pub returns : goal.returns
returns c =
    c.any_class_constant.ensures
    ∙ ap (list_any (is_class_constant c.args.from)) (c.homes.ensures ∙ c.requires.homes c.args.key.now)
    ∙ constant_homes (shown_declarations c.args.d.now) c.args.from c.args.key.now
