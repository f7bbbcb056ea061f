use Rattle.std.proofs.Common.{◌≡◌, ◌++◌, reverse, length}
use Rattle.vb_lines.specs.Statements.{ends}
use Rattle.vb_lines.specs.Cuts.{cuts_of}
use Rattle.vb_lines.proofs.cuts.cut_ends.Given as goal

abbrev pub invariant-loop-has_else : goal.invariant-loop-has_else
invariant-loop-has_else l = cuts_of l.cuts.items ++ ends (reverse l.ifs.items) ≡ cuts_of l.initial.cuts.items ++ ends (reverse l.initial.ifs.items)

abbrev pub decreases-loop-has_else : goal.decreases-loop-has_else
decreases-loop-has_else l = length l.ifs.items
