use Rattle.std.proofs.Common.{◌≡◌, ◌+◌, ◌<◌, ◌^◌, length, map}
use Rattle.net_tree.specs.View.{module_of}
use Rattle.net_reader.specs.FileLines.{file_lines}
use Rattle.net_reader.proofs.ResponseRuns.{left}
use Rattle.net_reader.proofs.response_file.read_sources.Given as goal

abbrev pub invariant-loop-source : goal.invariant-loop-source
invariant-loop-source l = record {
  kept : l.main ≡ l.fn.main;
  same : left (map module_of l.modules) l.fn.main l.modules l.source-index l.number (file_lines l.rest) ≡ left (map module_of l.modules) l.fn.main l.modules 0 l.fn.number (file_lines l.fn.rest);
  within : l.number + length (file_lines l.rest) < 2 ^ 64;
}
