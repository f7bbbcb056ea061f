use Rattle.std.proofs.Common.{◌≡◌, ◌++◌, drop, map}
use Rattle.bound_tree.specs.View.{constant_of}
use Rattle.declared_names.specs.View.{constant_of as named_constant}
use Rattle.declarations.specs.Bare.{bare_constant}
use Rattle.declarations.proofs.bare.bare_constants.Given as goal

abbrev pub invariant-loop-c : goal.invariant-loop-c
invariant-loop-c l =
    map constant_of l.consts.items ++ map bare_constant (map named_constant (drop l.c-index l.all)) ≡ map bare_constant (map named_constant l.all)
