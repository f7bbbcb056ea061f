use Rattle.std.proofs.Common.{◌≡◌, ◌++◌, map, drop}
use Rattle.vb_tree.specs.View.{line_of}
use Rattle.net_tree.specs.View.{field_of}
use Rattle.written_trees.specs.DeclaredMembers.{fields_from}
use Rattle.written_members.specs.View.{scope_at}
use Rattle.written_members.proofs.groups.fields_from.Given as goal

abbrev pub invariant-loop-line : goal.invariant-loop-line
invariant-loop-line l =
    map field_of l.fields.items ++ fields_from (scope_at l.site) l.rest l.n (map line_of (drop l.line-index l.lines))
    ≡ fields_from (scope_at l.site) l.comments l.number (map line_of l.lines)
