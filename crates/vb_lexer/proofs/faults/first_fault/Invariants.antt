use Rattle.std.proofs.Common.{◌≡◌, ◌+◌, drop}
use Rattle.vb_tree.specs.LogicalLines.{first_fault_from, joints}
use Rattle.vb_lexer.proofs.faults.first_fault.Given as goal

abbrev pub invariant-loop-at : goal.invariant-loop-at
invariant-loop-at l = record {
  lines : l.joints + joints (drop l.at l.units) ≡ joints l.units;
  first : first_fault_from l.directive l.stop l.place.file l.place.line l.joints l.at (drop l.at l.units) ≡ first_fault_from l.directive l.stop l.place.file l.place.line 0 0 l.units;
}
