use Rattle.std.proofs.Common.{◌+◌, ◌≤◌, length}
use Rattle.vb_tree.specs.ProjectLines.{lines_of}
use Rattle.project_file.specs.Reading.{HasReadTo}
use Rattle.project_file.proofs.reading.read_project.Given as goal

abbrev pub invariant-loop-rest : goal.invariant-loop-rest
invariant-loop-rest l = record {
  room : l.number + length l.rest ≤ length l.text;
  read : HasReadTo l.text l.reading l.number (lines_of l.rest);
}

abbrev pub decreases-loop-rest : goal.decreases-loop-rest
decreases-loop-rest l = length l.rest
