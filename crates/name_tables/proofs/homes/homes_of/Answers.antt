use Rattle.std.proofs.Common.{◌∙◌, ap, map, List}
use Rattle.std.specs.Prelude.{filter_map}
use Rattle.vb_tree.specs.declared.module.Module6.{Module6}
use Rattle.vb_tree.specs.View.{module_of}
use Rattle.name_tables.specs.Homes.{home_in}
use Rattle.name_tables.specs.View.{shown_declarations}
use Rattle.name_tables.proofs.homes.homes_of.Goals as goal

pub returns : goal.returns
returns c =
    c.in_ok-homes_among.ensures
    ∙ ap (λ (ms : List Module6). filter_map (home_in (shown_declarations c.args.d.now) c.args.key.now) (map module_of ms)) c.as_slice-modules.ensures
