use Rattle.std.proofs.Common.{◌≡◌, ◌++◌, drop}
use Rattle.declarations.specs.Finals.{group_rules}
use Rattle.declarations.specs.Numbered.{numbered}
use Rattle.declarations.proofs.rules.groups_rules.Given as goal

abbrev pub invariant-loop-suffix : goal.invariant-loop-suffix
invariant-loop-suffix l = record {
  counted : l.n ≡ l.suffix-index;
  items :
      l.rules.items ++ numbered (group_rules l.names) l.n ((drop l.suffix-index l.suffixes))
      ≡ numbered (group_rules l.names) 0 (l.suffixes);
}
