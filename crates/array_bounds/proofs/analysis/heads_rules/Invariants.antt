use Rattle.std.proofs.Common.{◌≡◌, map, take}
use Rattle.bound_tree.specs.View.{declarations_of, procedure_of}
use Rattle.array_bounds.specs.FactsOf.{known_of}
use Rattle.array_bounds.specs.Rows.{head_rules}
use Rattle.array_bounds.proofs.analysis.heads_rules.Given as goal

abbrev pub invariant-loop-p : goal.invariant-loop-p
invariant-loop-p l = l.sets.items ≡ map (head_rules (declarations_of l.facts.declared.now) (known_of l.facts)) (map procedure_of (take l.p-index l.procs))
