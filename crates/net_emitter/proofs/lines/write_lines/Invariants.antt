use Rattle.std.proofs.Common.{◌≡◌, ◌+◌, ◌≤◌, ◌++◌, map, take}
use Rattle.net_tree.specs.View.{line_of}
use Rattle.net_tree.specs.Lines.{lines_text}
use Rattle.net_emitter.proofs.Depths.{depth_through}
use Rattle.net_emitter.proofs.lines.write_lines.Given as goal

abbrev pub invariant-loop-line : goal.invariant-loop-line
invariant-loop-line l =
    (l.out ≡ l.initial.out ++ lines_text l.depth (map line_of (take l.line-index l.lines)))
    × (l.at ≡ depth_through l.depth (map line_of (take l.line-index l.lines))) × (l.at ≤ l.depth + l.line-index)
