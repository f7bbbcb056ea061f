use Rattle.std.proofs.Common.{◌≡◌, drop, map}
use Rattle.vb_tree.specs.View.{member_of}
use Rattle.bound_tree.specs.View.{procedure_of}
use Rattle.declarations.specs.Defaults.{members_default}
use Rattle.declarations.proofs.defaults.members_default.Given as goal

abbrev pub invariant-loop-member : goal.invariant-loop-member
invariant-loop-member l = members_default l.file (map procedure_of l.procs) (map member_of (drop l.member-index l.members)) ≡ members_default l.file (map procedure_of l.procs) (map member_of l.members)
