use Rattle.std.proofs.Common.{◌≡◌, map, take}
use Rattle.reach_table.specs.Chains.{is_marked}
use Rattle.bound_tree.specs.View.{procedure_of}
use Rattle.byref_analysis.specs.Rows.{head_rules}
use Rattle.byref_analysis.proofs.properties.rules_by.Given as goal

abbrev pub invariant-loop-p : goal.invariant-loop-p
invariant-loop-p l = l.sets.items ≡ map (head_rules (is_marked l.opens)) (map procedure_of (take l.p-index l.procs))
