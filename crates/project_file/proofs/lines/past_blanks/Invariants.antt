use Rattle.std.proofs.Common.{◌≡◌, length}
use Rattle.vb_tree.specs.ProjectLines.{past_blanks}
use Rattle.project_file.proofs.lines.past_blanks.Given as goal

abbrev pub invariant-loop-first : goal.invariant-loop-first
invariant-loop-first l = past_blanks l.rest ≡ past_blanks l.text

abbrev pub decreases-loop-first : goal.decreases-loop-first
decreases-loop-first l = length l.rest
