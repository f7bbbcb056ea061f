use Rattle.std.proofs.Common.{◌≡◌, drop, map}
use Rattle.std.specs.List.{list_all}
use Rattle.net_tree.specs.Lines.{is_writable_line}
use Rattle.net_tree.specs.View.{line_of}
use Rattle.net_writable.proofs.declarations.are_writable_lines.Given as goal

abbrev pub invariant-loop-line : goal.invariant-loop-line
invariant-loop-line l = list_all is_writable_line (map line_of l.lines) ≡ list_all is_writable_line (map line_of (drop l.line-index l.lines))
