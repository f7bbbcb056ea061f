use Rattle.std.proofs.Common.{◌≡◌, map, take}
use Rattle.bound_tree.specs.View.{declarations_of, procedure_of}
use Rattle.object_rules.specs.Shapes.{firsts, is_broken_part}
use Rattle.object_rules.proofs.shapes.broken_firsts.Given as goal

abbrev pub invariant-loop-p : goal.invariant-loop-p
invariant-loop-p l = l.all.items ≡ firsts (is_broken_part (declarations_of l.declared)) (map procedure_of (take l.p-index l.procs))
