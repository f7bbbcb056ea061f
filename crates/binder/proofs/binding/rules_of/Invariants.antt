use Rattle.std.proofs.Common.{◌≡◌, map, take}
use Rattle.bound_tree.specs.View.{bindings_of}
use Rattle.binder.specs.View.{rules_shown}
use Rattle.binder.proofs.binding.rules_of.Given as goal

abbrev pub invariant-loop-line : goal.invariant-loop-line
invariant-loop-line l =
    l.all ≡ rules_shown (map bindings_of (take l.line-index l.lines))
