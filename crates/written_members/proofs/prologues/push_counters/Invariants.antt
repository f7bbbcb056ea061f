use Rattle.std.proofs.Common.{◌≡◌, ◌++◌, map, drop}
use Rattle.net_tree.specs.View.{dim_of}
use Rattle.written_trees.specs.Prologues.{counters_from}
use Rattle.written_members.specs.View.{code_of}
use Rattle.written_members.proofs.prologues.push_counters.Given as goal

abbrev pub invariant-loop-c : goal.invariant-loop-c
invariant-loop-c l =
    map dim_of l.to.items ++ counters_from l.k (map code_of (drop l.c-index l.code)) ≡ map dim_of l.initial.to.items ++ counters_from 0 (map code_of l.code)
