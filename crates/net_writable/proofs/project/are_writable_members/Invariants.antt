use Rattle.std.proofs.Common.{◌≡◌, drop, map}
use Rattle.std.specs.List.{list_all}
use Rattle.net_tree.specs.Declarations.{is_writable_member}
use Rattle.net_tree.specs.View.{member_of}
use Rattle.net_writable.proofs.project.are_writable_members.Given as goal

abbrev pub invariant-loop-member : goal.invariant-loop-member
invariant-loop-member l = list_all is_writable_member (map member_of l.members) ≡ list_all is_writable_member (map member_of (drop l.member-index l.members))
