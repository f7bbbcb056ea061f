use Rattle.std.proofs.Common.{◌≡◌, drop, map}
use Rattle.declarations.specs.Finals.{params_rules}
use Rattle.declarations.specs.View.{plan_shown}
use Rattle.declarations.proofs.rules.params_rules.Given as goal

abbrev pub invariant-loop-v : goal.invariant-loop-v
invariant-loop-v l = params_rules (map plan_shown l.plans) l.all (drop l.v-index l.params) ≡ params_rules (map plan_shown l.plans) l.fn.rules l.params
