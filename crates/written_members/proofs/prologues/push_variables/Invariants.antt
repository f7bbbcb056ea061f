use Rattle.std.proofs.Common.{◌≡◌, ◌++◌, map, take}
use Rattle.net_tree.specs.View.{dim_of}
use Rattle.written_rows.specs.View.{scope_of}
use Rattle.written_trees.specs.Prologues.{variable_dim}
use Rattle.written_members.specs.Shown.{variable_shown}
use Rattle.written_members.proofs.prologues.push_variables.Given as goal

abbrev pub invariant-loop-v : goal.invariant-loop-v
invariant-loop-v l = map dim_of l.to.items ≡ map dim_of l.initial.to.items ++ map (variable_dim (scope_of l.scope)) (map variable_shown (take l.v-index l.vars))
