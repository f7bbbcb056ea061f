use Rattle.std.proofs.Common.{◌≡◌, ◌+◌, ◌-◌, ◌≤◌, [], ◌++◌, drop, length}
use Rattle.vb_tree.specs.LogicalLines.{readings, readings_from, joined, physical_lines, first_fault, lines_before_fault}
use Rattle.vb_lexer.proofs.lexing.lines_of.Given as goal

abbrev pub invariant-lines : goal.invariant-lines
invariant-lines l = record {
  within : l.at ≤ length l.text;
  count : l.before ≤ l.at;
  room : l.room ≡ [];
  first : first_fault (readings_from l.file (l.before + 1) (joined (physical_lines (drop l.at l.text)))) ≡ first_fault (readings l.file l.text);
  lines : l.lines ++ lines_before_fault (readings_from l.file (l.before + 1) (joined (physical_lines (drop l.at l.text)))) ≡ lines_before_fault (readings l.file l.text);
}

abbrev pub decreases-lines : goal.decreases-lines
decreases-lines l = length l.text - l.at
