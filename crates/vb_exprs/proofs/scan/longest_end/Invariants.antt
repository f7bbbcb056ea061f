use Rattle.std.proofs.Common.{◌≡◌, take, reverse, Some, []}
use Rattle.vb_tree.specs.Expressions.{symbols}
use Rattle.vb_exprs.specs.declared.scan.Mode.TheVariants.{Operand}
use Rattle.vb_exprs.specs.Reading.{IsLongestEnd}
use Rattle.vb_exprs.specs.Scan.{run}
use Rattle.vb_exprs.proofs.scan.longest_end.Given as goal

abbrev pub invariant-loop-i : goal.invariant-loop-i
invariant-loop-i l = record {
  reached : run Operand [] (take l.i (symbols l.tokens)) ≡ Some (l.mode, reverse l.brackets.items);
  best : IsLongestEnd l.i (symbols l.tokens) l.end;
}
