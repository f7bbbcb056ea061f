use Rattle.std.proofs.Common.{◌≡◌, ◌++◌, map, drop}
use Rattle.vb_tree.specs.View.{line_of}
use Rattle.net_tree.specs.View.{member_of}
use Rattle.written_members.specs.Groups.{enum_lines}
use Rattle.written_members.specs.View.{scope_at}
use Rattle.written_members.proofs.groups.push_enum_lines.Given as goal

abbrev pub invariant-loop-line : goal.invariant-loop-line
invariant-loop-line l =
    map member_of l.to.items ++ enum_lines (scope_at l.site) l.standard l.rest l.n (map line_of (drop l.line-index l.lines))
    ≡ map member_of l.initial.to.items ++ enum_lines (scope_at l.site) l.standard l.comments l.number (map line_of l.lines)
