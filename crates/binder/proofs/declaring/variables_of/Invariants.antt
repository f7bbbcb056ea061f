use Rattle.std.proofs.Common.{◌≡◌, map, take}
use Rattle.bound_tree.specs.View as bound
use Rattle.expression_words.specs.View.{declared_in}
use Rattle.binder.specs.ImplicitLocals.{all_variables, variable_of}
use Rattle.binder.specs.View.{locals_shown}
use Rattle.binder.proofs.declaring.variables_of.Given as goal

abbrev pub invariant-loop-own : goal.invariant-loop-own
invariant-loop-own l =
    map bound.variable_of l.all.items ≡ map (variable_of (declared_in l.survey.context)) (all_variables (map locals_shown (take l.own-index l.locals)))
