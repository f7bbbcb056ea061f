use Rattle.std.proofs.Common.{◌≡◌, map, take}
use Rattle.bound_tree.specs.View.{procedure_of}
use Rattle.object_rules.specs.Shapes.{firsts, is_let_part}
use Rattle.object_rules.proofs.shapes.let_firsts.Given as goal

abbrev pub invariant-loop-p : goal.invariant-loop-p
invariant-loop-p l = l.all.items ≡ firsts is_let_part (map procedure_of (take l.p-index l.procs))
