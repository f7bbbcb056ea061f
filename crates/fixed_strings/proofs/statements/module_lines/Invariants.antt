use Rattle.std.proofs.Common.{◌≡◌, map, take}
use Rattle.std.specs.List.{flat_map}
use Rattle.vb_tree.specs.View.{line_of, member_of}
use Rattle.vb_tree.specs.FlatLines.{member_lines}
use Rattle.fixed_strings.proofs.statements.module_lines.Given as goal

abbrev pub invariant-loop-member : goal.invariant-loop-member
invariant-loop-member l = map (λ x. line_of x.now) l.lines.items ≡ flat_map member_lines (map member_of (take l.member-index l.module.members))
