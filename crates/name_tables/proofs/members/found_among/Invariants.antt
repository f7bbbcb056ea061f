use Rattle.std.proofs.Common.{◌≡◌, map, drop}
use Rattle.std.specs.Prelude.{find, slice_get}
use Rattle.bound_tree.specs.declared.declared.ConstId.{ConstId}
use Rattle.bound_tree.specs.View.{constant_of}
use Rattle.name_tables.specs.Scopes.{some_constant_has_key}
use Rattle.name_tables.proofs.members.found_among.Given as goal

abbrev pub invariant-loop-c : goal.invariant-loop-c
invariant-loop-c l =
    find (λ (c : ConstId). some_constant_has_key l.key (slice_get (map constant_of l.consts) c.0)) l.members
    ≡ find (λ (c : ConstId). some_constant_has_key l.key (slice_get (map constant_of l.consts) c.0)) (drop l.c-index l.members)
