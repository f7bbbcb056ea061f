use Rattle.std.proofs.Common.{◌≡◌, map, take}
use Rattle.net_tree.specs.View.{procedure_of}
use Rattle.support_text.specs.FixedFunctions.{fixed_functions}
use Rattle.support_modules.proofs.functions.fixed_functions.Given as goal

abbrev pub invariant-loop-place : goal.invariant-loop-place
invariant-loop-place l = map procedure_of l.all.items ≡ take l.place fixed_functions
