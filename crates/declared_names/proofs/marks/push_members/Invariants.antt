use Rattle.std.proofs.Common.{◌≡◌, ◌++◌, map, take}
use Rattle.std.specs.List.{flat_map}
use Rattle.vb_tree.specs.View.{member_of}
use Rattle.bound_tree.specs.Source.{procedures_in}
use Rattle.declared_names.specs.Rules.{line_sets}
use Rattle.declared_names.proofs.marks.push_members.Given as goal

abbrev pub invariant-loop-member : goal.invariant-loop-member
invariant-loop-member l =
    l.to ≡ l.initial.to ++ map line_sets (flat_map procedures_in (map member_of (take l.member-index l.members)))
