use Rattle.std.proofs.Common.{◌≡◌, ◌+◌, ◌≤◌, length}
use Rattle.net_reader.specs.FileLines.{file_lines}
use Rattle.net_reader.specs.ModuleReader.{run}
use Rattle.net_reader.specs.StateView.{state_of}
use Rattle.net_reader.proofs.module_file.run.Given as goal

abbrev pub invariant-lines : goal.invariant-lines
invariant-lines l = record {
  same : run (state_of l.state) l.number (file_lines l.rest) ≡ run (state_of l.fn.first) 1 (file_lines l.fn.text);
  within : l.number + length l.rest ≤ 1 + length l.fn.text;
}

abbrev pub decreases-lines : goal.decreases-lines
decreases-lines l = length l.rest
