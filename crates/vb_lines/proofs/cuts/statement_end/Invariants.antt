use Rattle.std.proofs.Common.{◌≡◌, ◌+◌, false, length}
use Rattle.vb_lines.specs.Statements.{statement_end}
use Rattle.vb_lines.proofs.cuts.statement_end.Given as goal

abbrev pub invariant-loop-rest : goal.invariant-loop-rest
invariant-loop-rest l = record {
  room : l.at + length l.rest ≡ length l.tokens;
  rest : statement_end l.at l.in_if l.behind l.rest ≡ statement_end 0 l.in_if false l.tokens;
}

abbrev pub decreases-loop-rest : goal.decreases-loop-rest
decreases-loop-rest l = length l.rest
