use Rattle.std.proofs.Common.{◌≡◌, ◌++◌, map, take}
use Rattle.net_tree.specs.View.{member_of}
use Rattle.written_rows.specs.View.{scope_of}
use Rattle.written_trees.specs.DeclaredMembers.{module_variable}
use Rattle.written_members.specs.Shown.{variable_shown}
use Rattle.written_members.proofs.declared.push_variables.Given as goal

abbrev pub invariant-loop-v : goal.invariant-loop-v
invariant-loop-v l =
    map member_of l.to.items ≡ map member_of l.initial.to.items ++ map (module_variable (scope_of l.scope) l.visibility) (map variable_shown (take l.v-index l.vars))
