use Rattle.std.proofs.Common.{◌≡◌, ◌<◌, ◌≤◌, ◌-◌, drop, length}
use Rattle.vb_tree.specs.LogicalLines.{joined, physical_lines, joints}
use Rattle.vb_lexer.specs.Physical.{onto_first}
use Rattle.vb_lexer.proofs.physical.logical_line.Given as goal

abbrev pub invariant-lines : goal.invariant-lines
invariant-lines l = record {
  within : l.taken < length l.text;
  whole : joined (physical_lines l.text) ≡ onto_first l.units.items (joined (physical_lines (drop l.taken l.text)));
  units : length l.units.items ≤ l.taken;
  continuations : l.continuations ≡ joints l.units.items;
  joints : joints l.units.items ≤ l.taken;
}

abbrev pub decreases-lines : goal.decreases-lines
decreases-lines l = length l.text - l.taken
