use Rattle.std.proofs.Common.{◌≡◌, ◌++◌, map, drop}
use Rattle.bound_tree.specs.View.{declarations_of}
use Rattle.net_tree.specs.View.{procedure_of}
use Rattle.vb_tree.specs.View.{module_of}
use Rattle.support_modules.specs.Autos.{autos_in}
use Rattle.support_modules.proofs.functions.push_autos.Given as goal

abbrev pub invariant-loop-m : goal.invariant-loop-m
invariant-loop-m l =
    map procedure_of l.to.items ++ autos_in (declarations_of l.declared) l.class (map module_of (drop l.m-index l.modules)) ≡ map procedure_of l.initial.to.items ++ autos_in (declarations_of l.declared) 0 (map module_of l.modules)
