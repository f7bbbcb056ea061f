use Rattle.std.proofs.Common.{◌≡◌, ◌++◌, drop, map}
use Rattle.declared_names.specs.View.{variable_of as named_variable}
use Rattle.expression_words.specs.View.{declared_in}
use Rattle.declarations.specs.Plans.{plan_of}
use Rattle.declarations.specs.View.{plan_shown}
use Rattle.declarations.proofs.plans.plans_of.Given as goal

abbrev pub invariant-loop-x : goal.invariant-loop-x
invariant-loop-x l =
    map plan_shown l.plans.items ++ map (plan_of (declared_in l.known.context)) (map named_variable (drop l.x-index l.all))
    ≡ map (plan_of (declared_in l.known.context)) (map named_variable l.all)
