use Rattle.std.proofs.Common.{◌≡◌, ◌++◌, drop, map}
use Rattle.declared_names.specs.View.{procedure_of as named_procedure}
use Rattle.declarations.specs.Finals.{head_rules}
use Rattle.declarations.specs.View.{plan_shown}
use Rattle.declarations.specs.Numbered.{numbered}
use Rattle.declarations.proofs.rules.heads_rules.Given as goal

abbrev pub invariant-loop-p : goal.invariant-loop-p
invariant-loop-p l = record {
  counted : l.n ≡ l.p-index;
  items :
      l.rules.items ++ numbered (head_rules l.names (map plan_shown l.plans)) l.n (map named_procedure (drop l.p-index l.all))
      ≡ numbered (head_rules l.names (map plan_shown l.plans)) 0 (map named_procedure l.all);
}
