use Rattle.std.proofs.Common.{◌≡◌, drop, map}
use Rattle.std.specs.List.{list_any}
use Rattle.vb_tree.specs.View.{member_of}
use Rattle.declared_names.specs.Rules.{is_main}
use Rattle.declared_names.proofs.lines.any_main.Given as goal

abbrev pub invariant-loop-member : goal.invariant-loop-member
invariant-loop-member l = list_any is_main (map member_of l.members) ≡ list_any is_main (map member_of (drop l.member-index l.members))
