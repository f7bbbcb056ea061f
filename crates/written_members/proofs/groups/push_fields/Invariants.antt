use Rattle.std.proofs.Common.{◌≡◌, ◌++◌, map, take}
use Rattle.net_tree.specs.View.{field_of}
use Rattle.written_rows.specs.View.{scope_of}
use Rattle.written_trees.specs.DeclaredMembers.{field_member}
use Rattle.written_members.specs.Shown.{variable_shown}
use Rattle.written_members.proofs.groups.push_fields.Given as goal

abbrev pub invariant-loop-v : goal.invariant-loop-v
invariant-loop-v l = map field_of l.to.items ≡ map field_of l.initial.to.items ++ map (field_member (scope_of l.scope)) (map variable_shown (take l.v-index l.vars))
