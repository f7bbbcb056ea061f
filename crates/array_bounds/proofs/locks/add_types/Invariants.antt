use Rattle.std.proofs.Common.{◌≡◌, true, map, take}
use Rattle.std.specs.List.{list_all}
use Rattle.array_bounds.specs.LockTables.{AreRight, has_type, shown_type}
use Rattle.array_bounds.specs.Programs.{shown_program}
use Rattle.array_bounds.proofs.locks.add_types.Given as goal

abbrev pub invariant-loop-ty : goal.invariant-loop-ty
invariant-loop-ty l = record {
  right : AreRight (shown_program l.declared l.lines) l.pairs l.locks.items;
  all : list_all (has_type l.locks.items) (map shown_type (take l.ty-index l.types)) ≡ true;
}
