use Rattle.std.proofs.Common.{◌≡◌, ◌++◌, map, take}
use Rattle.vb_tree.specs.View.{module_of}
use Rattle.broken_rules.specs.Further.{modules_issues}
use Rattle.broken_rules.proofs.further.push_modules.Given as goal

abbrev pub invariant-loop-module : goal.invariant-loop-module
invariant-loop-module l = l.to.items ≡ l.initial.to.items ++ modules_issues (map module_of (take l.module-index l.modules))
