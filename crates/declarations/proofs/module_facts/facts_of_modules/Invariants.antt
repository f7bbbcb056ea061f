use Rattle.std.proofs.Common.{◌≡◌, ◌++◌, drop, map}
use Rattle.vb_tree.specs.View.{module_of}
use Rattle.declarations.specs.ModuleFacts.{facts_in}
use Rattle.declarations.specs.View.{facts_of}
use Rattle.declarations.proofs.module_facts.facts_of_modules.Given as goal

abbrev pub invariant-loop-module : goal.invariant-loop-module
invariant-loop-module l =
    map facts_of l.all.items ++ map facts_in (map module_of (drop l.module-index l.modules)) ≡ map facts_in (map module_of l.modules)
