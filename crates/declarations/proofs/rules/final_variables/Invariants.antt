use Rattle.std.proofs.Common.{◌≡◌, ◌++◌, ◌+◌, length, map}
use Rattle.bound_tree.specs.View.{variable_of}
use Rattle.declarations.specs.Finals.{final_variable}
use Rattle.declarations.specs.View.{plan_shown}
use Rattle.declarations.specs.Numbered.{numbered}
use Rattle.declarations.proofs.rules.final_variables.Given as goal

abbrev pub invariant-loop-x : goal.invariant-loop-x
invariant-loop-x l = record {
  counted : l.k + length l.x-iterator.rest.items ≡ length l.fn.vars.items;
  items :
      map variable_of l.all.items ++ numbered (final_variable (map plan_shown l.plans) l.rules) l.k (map variable_of l.x-iterator.rest.items)
      ≡ numbered (final_variable (map plan_shown l.plans) l.rules) 0 (map variable_of l.fn.vars.items);
}
