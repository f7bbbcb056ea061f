use Rattle.std.proofs.Common.{◌≡◌}
use Rattle.vb_tree.specs.View.{middles_of}
use Rattle.vb_lines.specs.Building.{branches_of}
use Rattle.vb_lines.proofs.frame.middles_from.Given as goal

abbrev pub invariant-loop-branch : goal.invariant-loop-branch
invariant-loop-branch l = middles_of l.middles.items ≡ branches_of l.yielded
