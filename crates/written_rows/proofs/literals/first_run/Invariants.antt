-- What the count of units in quotes keeps.
use Rattle.std.proofs.Common.{◌≡◌, ◌+◌, length, drop}
use Rattle.written_trees.specs.Literals.{pieces_of}
use Rattle.written_rows.proofs.literals.first_run.Given as goal

abbrev pub invariant-loop-at : goal.invariant-loop-at
invariant-loop-at l = length (pieces_of l.units).first ≡ l.at + length (pieces_of (drop l.at l.units)).first
