use Rattle.std.proofs.Common.{◌≡◌, map, drop}
use Rattle.std.specs.List.{list_any}
use Rattle.bound_tree.specs.View.{procedure_of, shown}
use Rattle.byref_analysis.specs.Arguments.{stirs_indexes}
use Rattle.byref_analysis.specs.FactsOf.{stirs_by}
use Rattle.byref_analysis.proofs.arguments.some_stir_indexes.Given as goal

abbrev pub invariant-loop-e : goal.invariant-loop-e
invariant-loop-e l =
    list_any (stirs_indexes (map procedure_of l.stirring.declared.now.procs) (stirs_by l.stirring)) (map shown l.nodes)
    ≡ list_any (stirs_indexes (map procedure_of l.stirring.declared.now.procs) (stirs_by l.stirring)) (map shown (drop l.e-index l.nodes))
