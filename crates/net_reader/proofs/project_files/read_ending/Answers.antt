use Rattle.net_reader.proofs.FewLines.{is_below}
use Rattle.net_reader.proofs.project_files.read_ending.Goals as goal

pub ended_by-requires-clause-lines : goal.ended_by-requires-clause-lines
ended_by-requires-clause-lines c = is_below c.args.before c.args.text.now c.in_ok-reading.reading c.requires.lines c.in_ok-reading.ensures
