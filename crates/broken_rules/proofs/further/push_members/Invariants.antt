use Rattle.std.proofs.Common.{◌≡◌, ◌++◌, map, drop}
use Rattle.vb_tree.specs.View.{member_of}
use Rattle.broken_rules.specs.Further.{members_issues}
use Rattle.broken_rules.proofs.further.push_members.Given as goal

abbrev pub invariant-loop-member : goal.invariant-loop-member
invariant-loop-member l = l.to.items ++ members_issues l.name (map member_of (drop l.member-index l.members)) ≡ l.initial.to.items ++ members_issues l.name (map member_of l.members)
