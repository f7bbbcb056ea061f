use Rattle.std.proofs.Common.{◌≡◌, ◌++◌, map, take}
use Rattle.std.specs.List.{flat_map}
use Rattle.net_tree.specs.View.{member_of}
use Rattle.net_tree.specs.Declarations.{member_text}
use Rattle.net_emitter.proofs.declarations.write_members.Given as goal

abbrev pub invariant-loop-member : goal.invariant-loop-member
invariant-loop-member l = l.out ≡ l.initial.out ++ flat_map member_text (map member_of (take l.member-index l.members))
