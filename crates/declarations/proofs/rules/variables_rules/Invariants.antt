use Rattle.std.proofs.Common.{◌≡◌, ◌++◌, drop, map}
use Rattle.reach_table.specs.Chains.{is_marked}
use Rattle.bound_tree.specs.View.{variable_of}
use Rattle.declarations.specs.Finals.{variable_rules}
use Rattle.declarations.specs.View.{plan_shown}
use Rattle.declarations.specs.Numbered.{numbered}
use Rattle.declarations.proofs.rules.variables_rules.Given as goal

abbrev pub invariant-loop-x : goal.invariant-loop-x
invariant-loop-x l = record {
  counted : l.k ≡ l.x-index;
  items :
      l.rules.items ++ numbered (variable_rules l.names l.heads (is_marked l.circular) (map plan_shown l.plans)) l.k (map variable_of (drop l.x-index l.vars))
      ≡ numbered (variable_rules l.names l.heads (is_marked l.circular) (map plan_shown l.plans)) 0 (map variable_of l.vars);
}
