use Rattle.std.proofs.Common.{◌≡◌, drop, map, reverse}
use Rattle.net_tree.specs.Blocks.{nests, nests_in}
use Rattle.net_tree.specs.View.{line_of}
use Rattle.net_writable.proofs.blocks.nests.Given as goal

abbrev pub invariant-loop-line : goal.invariant-loop-line
invariant-loop-line l = nests (map line_of l.lines) ≡ nests_in (reverse l.around.items) (map line_of (drop l.line-index l.lines))
