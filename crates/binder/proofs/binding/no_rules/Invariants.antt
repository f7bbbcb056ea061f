use Rattle.std.proofs.Common.{◌≡◌, replicate}
use Rattle.bound_tree.specs.RuleSets.{none}
use Rattle.binder.proofs.binding.no_rules.Given as goal

abbrev pub invariant-loop-i : goal.invariant-loop-i
invariant-loop-i l =
    l.all ≡ replicate l._i none
