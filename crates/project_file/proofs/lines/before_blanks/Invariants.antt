use Rattle.std.proofs.Common.{◌≡◌, length, reverse}
use Rattle.vb_tree.specs.ProjectLines.{past_blanks}
use Rattle.project_file.proofs.lines.before_blanks.Given as goal

abbrev pub invariant-loop-last : goal.invariant-loop-last
invariant-loop-last l = reverse (past_blanks (reverse l.rest)) ≡ reverse (past_blanks (reverse l.text))

abbrev pub decreases-loop-last : goal.decreases-loop-last
decreases-loop-last l = length l.rest
