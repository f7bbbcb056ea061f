use Rattle.std.proofs.Common.{◌≡◌, map, drop}
use Rattle.vb_tree.specs.View.{constant_of}
use Rattle.declared_names.specs.Declaring.{constants_in, with_declared}
use Rattle.declared_names.specs.View.{names_of}
use Rattle.declared_names.proofs.variables.put_constants.Given as goal

abbrev pub invariant-loop-constant : goal.invariant-loop-constant
invariant-loop-constant l =
    with_declared (constants_in l.scope l.owner l.place l.statement (map constant_of (drop l.constant-index l.constants))) (names_of l.to)
    ≡ with_declared (constants_in l.scope l.owner l.place l.statement (map constant_of l.constants)) (names_of l.initial.to)
