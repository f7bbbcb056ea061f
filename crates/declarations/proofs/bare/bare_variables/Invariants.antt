use Rattle.std.proofs.Common.{◌≡◌, ◌++◌, drop, map}
use Rattle.bound_tree.specs.View.{variable_of}
use Rattle.declared_names.specs.View.{variable_of as named_variable}
use Rattle.declarations.specs.Bare.{bare_variable}
use Rattle.declarations.proofs.bare.bare_variables.Given as goal

abbrev pub invariant-loop-x : goal.invariant-loop-x
invariant-loop-x l =
    map variable_of l.vars.items ++ map bare_variable (map named_variable (drop l.x-index l.all)) ≡ map bare_variable (map named_variable l.all)
