use Rattle.std.proofs.Common.{◌≡◌, map, take}
use Rattle.binder.specs.View.{body_shown, rules_shown}
use Rattle.binder.proofs.binding.lines_rules.Given as goal

abbrev pub invariant-loop-body : goal.invariant-loop-body
invariant-loop-body l =
    l.all ≡ map rules_shown (map body_shown (take l.body-index l.bodies))
