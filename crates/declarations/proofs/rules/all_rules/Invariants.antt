use Rattle.std.proofs.Common.{◌≡◌, ◌++◌, drop}
use Rattle.declarations.specs.Finals.{joint_rules}
use Rattle.declarations.specs.Numbered.{numbered}
use Rattle.declarations.proofs.rules.all_rules.Given as goal

abbrev pub invariant-loop-set : goal.invariant-loop-set
invariant-loop-set l = record {
  counted : l.k ≡ l.set-index;
  items :
      l.rules.items ++ numbered (joint_rules l.names) l.k ((drop l.set-index l.own))
      ≡ numbered (joint_rules l.names) 0 (l.own);
}
