use Rattle.std.proofs.Common.{◌≡◌, map, drop}
use Rattle.vb_tree.specs.View.{module_of}
use Rattle.bound_facts.specs.Bounds.{base_of}
use Rattle.declarations.proofs.plans.base_of.Given as goal

abbrev pub invariant-loop-module : goal.invariant-loop-module
invariant-loop-module l = base_of l.file (map module_of l.modules) ≡ base_of l.file (map module_of (drop l.module-index l.modules))
