use Rattle.std.proofs.Common.{◌≡◌, ◌++◌, map, take}
use Rattle.net_tree.specs.View.{dim_of}
use Rattle.written_rows.specs.View.{scope_of}
use Rattle.written_trees.specs.Prologues.{constant_dim}
use Rattle.written_members.specs.Shown.{constant_shown}
use Rattle.written_members.proofs.prologues.push_constants.Given as goal

abbrev pub invariant-loop-c : goal.invariant-loop-c
invariant-loop-c l = map dim_of l.to.items ≡ map dim_of l.initial.to.items ++ map (constant_dim (scope_of l.scope)) (map constant_shown (take l.c-index l.consts))
