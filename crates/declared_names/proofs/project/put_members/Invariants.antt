use Rattle.std.proofs.Common.{◌≡◌, map, drop}
use Rattle.vb_tree.specs.View.{member_of}
use Rattle.declared_names.specs.Declaring.{module_declares, with_declared}
use Rattle.declared_names.specs.View.{names_of}
use Rattle.declared_names.proofs.project.put_members.Given as goal

abbrev pub invariant-loop-member : goal.invariant-loop-member
invariant-loop-member l =
    with_declared (module_declares l.file l.next (map member_of (drop l.member-index l.members))) (names_of l.to)
    ≡ with_declared (module_declares l.file 0 (map member_of l.members)) (names_of l.initial.to)
