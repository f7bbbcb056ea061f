use Rattle.std.proofs.Common.{◌∙◌, ap, map, sym}
use Rattle.vb_tree.specs.View.{module_of}
use Rattle.declared_names.specs.Rules.{name_rules}
use Rattle.declared_names.specs.View.{names_of}
use Rattle.declared_names.proofs.FirstRivals.{field_ruled}
use Rattle.declared_names.proofs.rules.name_rules.Goals as goal

pub returns-in-Field : goal.returns-in-Field
returns-in-Field c =
    c.field_rules.ensures
    ∙ field_ruled c.args.rivals.now.fields (names_of c.args.d.now) c.in-Field.ty.0 c.args.name.now c.args.own c.requires.fields
    ∙ ap (name_rules (map module_of c.args.modules.now) (names_of c.args.d.now) c.args.own c.args.name.now) (sym c.in-Field.is)
