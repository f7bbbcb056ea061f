use Rattle.std.proofs.Common.{◌≡◌, ◌++◌, reverse, length}
use Rattle.vb_lines.specs.Statements.{else_cuts, behind_else}
use Rattle.vb_lines.specs.Cuts.{cuts_of}
use Rattle.vb_lines.proofs.cuts.cut_else.Given as goal

abbrev pub invariant-loop-has_else : goal.invariant-loop-has_else
invariant-loop-has_else l = record {
  cuts : cuts_of l.cuts.items ++ else_cuts (reverse l.ifs.items) l.token ≡ cuts_of l.initial.cuts.items ++ else_cuts (reverse l.initial.ifs.items) l.token;
  ifs : behind_else (reverse l.ifs.items) ≡ behind_else (reverse l.initial.ifs.items);
}

abbrev pub decreases-loop-has_else : goal.decreases-loop-has_else
decreases-loop-has_else l = length l.ifs.items
