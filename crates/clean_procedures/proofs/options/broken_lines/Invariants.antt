use Rattle.std.proofs.Common.{◌≡◌, map, take}
use Rattle.std.specs.List.{flat_map}
use Rattle.vb_tree.specs.View.{member_of}
use Rattle.vb_tree.specs.FlatLines.{member_lines}
use Rattle.clean_procedures.specs.Options.{is_broken_line}
use Rattle.clean_procedures.proofs.options.broken_lines.Given as goal

abbrev pub invariant-loop-member : goal.invariant-loop-member
invariant-loop-member l = l.flags.items ≡ map is_broken_line (flat_map member_lines (map member_of (take l.member-index l.members)))
