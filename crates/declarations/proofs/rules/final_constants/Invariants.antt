use Rattle.std.proofs.Common.{◌≡◌, ◌++◌, ◌+◌, length, map}
use Rattle.reach_table.specs.Chains.{is_marked}
use Rattle.bound_tree.specs.View.{constant_of}
use Rattle.declarations.specs.Finals.{final_constant}
use Rattle.declarations.specs.Numbered.{numbered}
use Rattle.declarations.proofs.rules.final_constants.Given as goal

abbrev pub invariant-loop-c : goal.invariant-loop-c
invariant-loop-c l = record {
  counted : l.k + length l.c-iterator.rest.items ≡ length l.fn.consts.items;
  items :
      map constant_of l.all.items ++ numbered (final_constant (is_marked l.members) l.rules) l.k (map constant_of l.c-iterator.rest.items)
      ≡ numbered (final_constant (is_marked l.members) l.rules) 0 (map constant_of l.fn.consts.items);
}
