use Rattle.std.proofs.Common.{◌≡◌}
use Rattle.net_tree.specs.View.{exps_of}
use Rattle.written_trees.specs.Lines.{empty_extents}
use Rattle.written_lines.proofs.resizing.empty_extents.Given as goal

abbrev pub invariant-loop : goal.invariant-loop
invariant-loop l = exps_of l.all.items ≡ empty_extents l.counter
