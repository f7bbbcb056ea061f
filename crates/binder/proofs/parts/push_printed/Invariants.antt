use Rattle.std.proofs.Common.{◌≡◌, ◌++◌, map, take}
use Rattle.vb_tree.specs.View.{exp_of}
use Rattle.binder.specs.declared.parts.Task.TheVariants.{Printed}
use Rattle.binder.specs.Parts.{part}
use Rattle.binder.specs.View.{part_of}
use Rattle.binder.proofs.parts.push_printed.Given as goal

abbrev pub invariant-loop-e : goal.invariant-loop-e
invariant-loop-e l =
    map part_of l.to.items ≡ map part_of l.initial.to.items ++ map (part Printed) (map exp_of (take l.e-index l.items))
