use Rattle.std.proofs.Common.{◌≡◌, map, drop}
use Rattle.vb_tree.specs.View.{member_of}
use Rattle.bound_facts.specs.Bounds.{first_base}
use Rattle.declarations.proofs.plans.first_base.Given as goal

abbrev pub invariant-loop-member : goal.invariant-loop-member
invariant-loop-member l = first_base (map member_of l.members) ≡ first_base (map member_of (drop l.member-index l.members))
