use Rattle.std.proofs.Common.{◌≡◌, ◌+◌, false, length}
use Rattle.vb_lines.specs.Statements.{behind_then}
use Rattle.vb_lines.proofs.cuts.behind_then.Given as goal

abbrev pub invariant-loop-rest : goal.invariant-loop-rest
invariant-loop-rest l = record {
  room : l.at + length l.rest ≡ length l.tokens;
  rest : behind_then l.at l.in_if l.behind l.rest ≡ behind_then 0 l.in_if false l.tokens;
}

abbrev pub decreases-loop-rest : goal.decreases-loop-rest
decreases-loop-rest l = length l.rest
