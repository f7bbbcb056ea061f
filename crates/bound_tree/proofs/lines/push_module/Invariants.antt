use Rattle.std.proofs.Common.{◌≡◌, ◌++◌, map, take}
use Rattle.std.specs.List.{flat_map}
use Rattle.vb_tree.specs.View.{member_of}
use Rattle.bound_tree.specs.Source.{procedures_in}
use Rattle.bound_tree.specs.Lines.{bodies_shown}
use Rattle.bound_tree.proofs.lines.push_module.Given as goal

abbrev pub invariant-loop-member : goal.invariant-loop-member
invariant-loop-member l =
    map bodies_shown l.all.items ≡ map bodies_shown l.initial.all.items ++ flat_map procedures_in (map member_of (take l.member-index l.module.members))
