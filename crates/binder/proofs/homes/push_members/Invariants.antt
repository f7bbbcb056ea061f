use Rattle.std.proofs.Common.{◌≡◌, ◌++◌, map, drop}
use Rattle.vb_tree.specs.View.{member_of}
use Rattle.binder.specs.ImplicitLocals.{homes_in}
use Rattle.binder.specs.View.{home_of}
use Rattle.binder.proofs.homes.push_members.Given as goal

abbrev pub invariant-loop-member : goal.invariant-loop-member
invariant-loop-member l =
    map home_of l.to.items ++ homes_in l.file l.next (map member_of (drop l.member-index l.members))
    ≡ map home_of l.initial.to.items ++ homes_in l.file 0 (map member_of l.members)
