use Rattle.std.proofs.Common.{◌≡◌, ℕ, ◌||◌, ◌==◌, take}
use Rattle.std.specs.List.{list_any}
use Rattle.bound_tree.specs.declared.declared.ConstId.{ConstId}
use Rattle.name_tables.specs.Homes.{has_number}
use Rattle.name_tables.proofs.homes.add_members.Given as goal

abbrev pub invariant-loop-m : goal.invariant-loop-m
invariant-loop-m l = (n : ℕ) → has_number l.to n ≡ (has_number l.initial.to n || list_any (λ (m : ConstId). m.0 == n) (take l.m-index l.members))
