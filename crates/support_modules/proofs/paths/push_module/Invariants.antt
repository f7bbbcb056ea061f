use Rattle.std.proofs.Common.{◌≡◌, ◌++◌, map, take}
use Rattle.std.specs.Prelude.{flat_map}
use Rattle.net_tree.specs.View.{member_of}
use Rattle.support_modules.specs.Paths.{paths_of_member, shown}
use Rattle.support_modules.proofs.paths.push_module.Given as goal

abbrev pub invariant-loop-member : goal.invariant-loop-member
invariant-loop-member l = map shown l.to.items ≡ map shown l.initial.to.items ++ flat_map paths_of_member (map member_of (take l.member-index l.source.members))
