use Rattle.std.proofs.Common.{◌≡◌, map, take}
use Rattle.bound_tree.specs.View.{declarations_of, procedure_of}
use Rattle.object_rules.specs.Rows.{head_rules}
use Rattle.object_rules.proofs.heads.rules_of.Given as goal

abbrev pub invariant-loop-p : goal.invariant-loop-p
invariant-loop-p l = l.sets.items ≡ map (head_rules (declarations_of l.declared)) (map procedure_of (take l.p-index l.procs))
