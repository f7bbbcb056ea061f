use Rattle.std.proofs.Common.{◌≡◌, map, drop}
use Rattle.vb_tree.specs.View.{param_of}
use Rattle.declared_names.specs.Declaring.{params_declare, with_declared}
use Rattle.declared_names.specs.View.{names_of}
use Rattle.declared_names.proofs.procedures.put_params.Given as goal

abbrev pub invariant-loop-i : goal.invariant-loop-i
invariant-loop-i l =
    with_declared (params_declare l.procedure l.given l.place l.statement l.i (map param_of (drop l.i l.params))) (names_of l.to)
    ≡ with_declared (params_declare l.procedure l.given l.place l.statement 0 (map param_of l.params)) (names_of l.initial.to)
