use Rattle.std.proofs.Common.{List, ap, map, ◌∙◌}
use Rattle.vb_tree.specs.declared.module.Module6.{Module6}
use Rattle.vb_tree.specs.View.{module_of}
use Rattle.name_tables.specs.Rows.{file_at}
use Rattle.name_tables.specs.Scopes.{is_standard_name}
use Rattle.name_tables.specs.View.{shown_declarations}
use Rattle.name_tables.proofs.NamedFirsts.{file_first}
use Rattle.name_tables.proofs.modules.standard_named.Goals as goal

pub returns : goal.returns
returns c =
    c.file_at.ensures
    ∙ ap (λ (ms : List Module6). file_at (map module_of ms) c.standard_place.result) c.as_slice.ensures
    ∙ ap (file_at (shown_declarations c.args.d.now).project.modules) (c.standard_place.ensures ∙ c.requires.modules.standards c.args.key.now)
    ∙ file_first (is_standard_name c.args.key.now) (shown_declarations c.args.d.now).project.modules
