use Rattle.std.proofs.Common.{◌≡◌, map, drop}
use Rattle.vb_tree.specs.View.{module_of}
use Rattle.declared_names.specs.Rules.{with_params}
use Rattle.declared_names.specs.View.{names_of}
use Rattle.declared_names.proofs.rules.with_params.Given as goal

abbrev pub invariant-loop-param : goal.invariant-loop-param
invariant-loop-param l =
    with_params (map module_of l.modules) (names_of l.d) l.all (drop l.param-index l.params)
    ≡ with_params (map module_of l.modules) (names_of l.d) l.fn.rules l.params
