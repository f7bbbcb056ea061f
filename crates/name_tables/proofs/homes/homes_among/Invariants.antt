use Rattle.std.proofs.Common.{◌≡◌, map, take}
use Rattle.std.specs.Prelude.{filter_map}
use Rattle.vb_tree.specs.View.{module_of}
use Rattle.name_tables.specs.Homes.{home_in}
use Rattle.name_tables.specs.View.{shown_declarations}
use Rattle.name_tables.proofs.homes.homes_among.Given as goal

abbrev pub invariant-loop-module : goal.invariant-loop-module
invariant-loop-module l = l.all.items ≡ filter_map (home_in (shown_declarations l.d) l.key) (map module_of (take l.module-index l.modules))
