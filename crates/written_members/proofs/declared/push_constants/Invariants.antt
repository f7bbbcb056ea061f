use Rattle.std.proofs.Common.{◌≡◌, ◌++◌, map, take}
use Rattle.net_tree.specs.View.{member_of}
use Rattle.written_rows.specs.View.{scope_of}
use Rattle.written_trees.specs.DeclaredMembers.{module_constant}
use Rattle.written_members.specs.Shown.{constant_shown}
use Rattle.written_members.proofs.declared.push_constants.Given as goal

abbrev pub invariant-loop-c : goal.invariant-loop-c
invariant-loop-c l =
    map member_of l.to.items ≡ map member_of l.initial.to.items ++ map (module_constant (scope_of l.scope) l.visibility) (map constant_shown (take l.c-index l.consts))
