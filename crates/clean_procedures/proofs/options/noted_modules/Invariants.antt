use Rattle.std.proofs.Common.{◌≡◌, map, take}
use Rattle.vb_tree.specs.View.{module_of}
use Rattle.clean_procedures.specs.Options.{noted, shown}
use Rattle.clean_procedures.proofs.options.noted_modules.Given as goal

abbrev pub invariant-loop-module : goal.invariant-loop-module
invariant-loop-module l = map shown l.all.items ≡ map noted (map module_of (take l.module-index l.modules))
