use Rattle.std.proofs.Common.{reverse, length}
use Rattle.vb_lines.specs.Cuts.{cuts_of, HasCut}
use Rattle.vb_lines.proofs.cuts.cut_statements.Given as goal

abbrev pub invariant-loop-rest : goal.invariant-loop-rest
invariant-loop-rest l = HasCut (cuts_of l.initial.cuts.items) l.tokens (cuts_of l.cuts.items) (reverse l.ifs.items) l.rest

abbrev pub decreases-loop-rest : goal.decreases-loop-rest
decreases-loop-rest l = length l.rest
