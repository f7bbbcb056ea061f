use Rattle.std.proofs.Common.{◌≡◌, map, take}
use Rattle.std.specs.List.{flat_map}
use Rattle.vb_tree.specs.View.{member_of}
use Rattle.written_facts.specs.Statements.{member_sets}
use Rattle.written_facts.proofs.statements.module_sets.Given as goal

abbrev pub invariant-loop-member : goal.invariant-loop-member
invariant-loop-member l = l.sets.items ≡ flat_map (member_sets l.module.name) (map member_of (take l.member-index l.module.members))
