use Rattle.std.proofs.Common.{◌≡◌, ◌++◌, drop, map}
use Rattle.bound_tree.specs.View.{variable_of}
use Rattle.declared_names.specs.View.{variable_of as named_variable}
use Rattle.expression_words.specs.View.{declared_in}
use Rattle.declarations.specs.Typed.{typed_variable}
use Rattle.declarations.proofs.typed.typed_variables.Given as goal

abbrev pub invariant-loop-x : goal.invariant-loop-x
invariant-loop-x l =
    map variable_of l.vars.items ++ map (typed_variable (declared_in l.known.context)) (map named_variable (drop l.x-index l.all))
    ≡ map (typed_variable (declared_in l.known.context)) (map named_variable l.all)
