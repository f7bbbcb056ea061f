use Rattle.std.proofs.Common.{◌≡◌, map, replicate}
use Rattle.net_tree.specs.View.{exp_of}
use Rattle.support_modules.specs.Extents.{none}
use Rattle.support_modules.proofs.extents.empty_list.Given as goal

abbrev pub invariant-loop-dimension : goal.invariant-loop-dimension
invariant-loop-dimension l = map exp_of l.list.items ≡ replicate l._dimension none
