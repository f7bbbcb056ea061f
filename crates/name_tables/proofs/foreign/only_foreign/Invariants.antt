use Rattle.std.proofs.Common.{◌≡◌, take}
use Rattle.std.specs.Prelude.{filter_map}
use Rattle.name_tables.specs.Homes.{foreign_at}
use Rattle.name_tables.specs.Scopes.{the_only}
use Rattle.name_tables.specs.View.{shown_declarations}
use Rattle.name_tables.proofs.foreign.only_foreign.Given as goal

abbrev pub invariant-loop-home : goal.invariant-loop-home
invariant-loop-home l = l.only ≡ the_only (filter_map (foreign_at (shown_declarations l.d) l.kinds l.from) (take l.home-index l.homes))
