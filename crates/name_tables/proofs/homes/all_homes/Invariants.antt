use Rattle.std.proofs.Common.{◌≡◌, ℕ, List, cond, take}
use Rattle.std.specs.Prelude.{Some, None}
use Rattle.std.specs.List.{list_any}
use Rattle.name_tables.specs.Homes.{homes_of, is_public_name, lists_noted}
use Rattle.name_tables.specs.View.{shown_declarations}
use Rattle.name_tables.proofs.homes.all_homes.Given as goal

abbrev pub invariant-loop-e : goal.invariant-loop-e
invariant-loop-e l =
    (key : List ℕ) → lists_noted l.all key
    ≡ cond (list_any (is_public_name key) (take l.e-index l.d.names.now)) (Some (homes_of (shown_declarations l.d) key)) None
