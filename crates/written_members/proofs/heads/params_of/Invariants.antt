use Rattle.std.proofs.Common.{◌≡◌, map, take}
use Rattle.net_tree.specs.View.{param_of}
use Rattle.written_rows.specs.View.{scope_of}
use Rattle.written_trees.specs.Heads.{params_of}
use Rattle.written_members.proofs.heads.params_of.Given as goal

abbrev pub invariant-loop-v : goal.invariant-loop-v
invariant-loop-v l = map param_of l.list.items ≡ params_of (scope_of l.scope) l.by_value (take l.v-index l.params)
