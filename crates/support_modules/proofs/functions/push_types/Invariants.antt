use Rattle.std.proofs.Common.{◌≡◌, ◌++◌, map, drop}
use Rattle.bound_tree.specs.View.{declarations_of}
use Rattle.net_tree.specs.View.{procedure_of}
use Rattle.written_rows.specs.View.{facts_of}
use Rattle.written_trees.specs.Supports.{types_from}
use Rattle.support_modules.proofs.functions.push_types.Given as goal

abbrev pub invariant-loop-d : goal.invariant-loop-d
invariant-loop-d l =
    map procedure_of l.to.items ++ types_from (declarations_of l.declared) (facts_of l.facts) l.t (drop l.d-index l.types) ≡ map procedure_of l.initial.to.items ++ types_from (declarations_of l.declared) (facts_of l.facts) 0 l.types
