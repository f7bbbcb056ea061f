use Rattle.std.proofs.Common.{◌≡◌, ◌++◌, drop, map}
use Rattle.vb_tree.specs.View.{module_of}
use Rattle.bound_tree.specs.View.{procedure_of}
use Rattle.declarations.specs.Defaults.{defaults_along}
use Rattle.declarations.proofs.defaults.defaults_in.Given as goal

abbrev pub invariant-loop-module : goal.invariant-loop-module
invariant-loop-module l =
    l.all.items ++ defaults_along (map procedure_of l.procs) (map module_of (drop l.module-index l.modules))
    ≡ defaults_along (map procedure_of l.procs) (map module_of l.modules)
