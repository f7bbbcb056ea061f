use Rattle.std.proofs.Common.{◌≡◌, map, take}
use Rattle.expression_words.specs.View.{declared_in}
use Rattle.binder.specs.ImplicitLocals.{all_variables, rules_of}
use Rattle.binder.specs.View.{locals_shown}
use Rattle.binder.proofs.declaring.variables_rules.Given as goal

abbrev pub invariant-loop-own : goal.invariant-loop-own
invariant-loop-own l =
    l.all.items ≡ map (rules_of (declared_in l.survey.context)) (all_variables (map locals_shown (take l.own-index l.locals)))
