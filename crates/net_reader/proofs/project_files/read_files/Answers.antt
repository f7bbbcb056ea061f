use Rattle.std.proofs.Common.{◌<◌, length, subst, sym, arith}
use Rattle.net_reader.specs.FileLines.{file_lines}
use Rattle.net_reader.specs.Reads.{before_of}
use Rattle.net_reader.proofs.FewLines.{few_lines}
use Rattle.net_reader.proofs.StuckLines.{file_within}
use Rattle.net_reader.proofs.project_files.read_files.Goals as goal

pub read_ending-requires-clause-lines : goal.read_ending-requires-clause-lines
read_ending-requires-clause-lines c =
    subst (λ text. length (file_lines text) < 0xFFFF_FFFF) (sym c.as_slice.ensures)
    (few_lines c.args.files.now c.loop-file.file c.index-files-file.result c.requires.lines c.loop-file-test.true c.index-files-file.is)

pub fault_at-requires-clause-lines : goal.fault_at-requires-clause-lines
fault_at-requires-clause-lines c =
    let text = c.as_slice-in-loop-file.result.now in
    let few : length (file_lines text) < 0xFFFF_FFFF =
    subst (λ text. length (file_lines text) < 0xFFFF_FFFF) (sym c.as_slice-in-loop-file.ensures)
    (few_lines c.args.files.now c.loop-file.file c.index-files-file.result c.requires.lines c.loop-file-test.true c.index-files-file.is) in
    let within = file_within (before_of c.loop-file.before) c.index-files-file.result.0 text c.in-Stuck.line (rw c.in-Stuck.is at c.in_ok-next.ensures) in
    omega (arith, few, within)
