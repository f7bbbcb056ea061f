use Rattle.std.proofs.Common.{◌≡◌, ◌++◌, map, take}
use Rattle.bound_tree.specs.View as bound
use Rattle.expression_words.specs.View.{declared_in}
use Rattle.binder.specs.ImplicitLocals.{variable_of}
use Rattle.binder.specs.View.{implicit_of}
use Rattle.binder.proofs.declaring.push_variables.Given as goal

abbrev pub invariant-loop-x : goal.invariant-loop-x
invariant-loop-x l =
    map bound.variable_of l.to.items ≡ map bound.variable_of l.initial.to.items ++ map (variable_of (declared_in l.survey.context)) (map implicit_of (take l.x-index l.all))
