use Rattle.std.proofs.Common.{◌≡◌, ◌++◌, map, take}
use Rattle.std.specs.Prelude.{flat_map}
use Rattle.net_tree.specs.View.{redim_item_of}
use Rattle.support_modules.specs.Paths.{paths_of_redim, shown}
use Rattle.support_modules.proofs.paths.push_redims.Given as goal

abbrev pub invariant-loop-item : goal.invariant-loop-item
invariant-loop-item l = map shown l.to.items ≡ map shown l.initial.to.items ++ flat_map paths_of_redim (map redim_item_of (take l.item-index l.items))
