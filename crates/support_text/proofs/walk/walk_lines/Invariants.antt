use Rattle.std.proofs.Common.{◌≡◌, map, take}
use Rattle.std.specs.List.{fold}
use Rattle.net_tree.specs.View.{line_of}
use Rattle.support_text.specs.Noting.{noted}
use Rattle.support_text.specs.Walk.{walk_line}
use Rattle.support_text.proofs.walk.walk_lines.Given as goal

abbrev pub invariant-loop-line : goal.invariant-loop-line
invariant-loop-line l = l.used ≡ fold (walk_line noted) l.initial.used (map line_of (take l.line-index l.lines))
