use Rattle.std.proofs.Common.{◌≡◌, drop}
use Rattle.std.specs.List.{list_any}
use Rattle.name_tables.specs.Homes.{is_class_constant}
use Rattle.name_tables.proofs.foreign.any_class_constant.Given as goal

abbrev pub invariant-loop-home : goal.invariant-loop-home
invariant-loop-home l = list_any (is_class_constant l.from) l.homes ≡ list_any (is_class_constant l.from) (drop l.home-index l.homes)
