use Rattle.std.proofs.Common.{◌≡◌, map, drop}
use Rattle.vb_tree.specs.View.{declarator_of}
use Rattle.declared_names.specs.Declaring.{variables_in, with_declared}
use Rattle.declared_names.specs.View.{names_of}
use Rattle.declared_names.proofs.variables.put_variables.Given as goal

abbrev pub invariant-loop-declarator : goal.invariant-loop-declarator
invariant-loop-declarator l =
    with_declared (variables_in l.scope l.owner l.place l.statement (map declarator_of (drop l.declarator-index l.declarators))) (names_of l.to)
    ≡ with_declared (variables_in l.scope l.owner l.place l.statement (map declarator_of l.declarators)) (names_of l.initial.to)
