use Rattle.std.proofs.Common.{◌∙◌, sym, arith}
use Rattle.std.specs.Char.{to_ascii_lowercase}
use Rattle.project_file.proofs.Cuts.{pairs_same}
use Rattle.project_file.proofs.lines.is_key.Goals as goal

pub returns-then-units-word : goal.returns-then-units-word
returns-then-units-word c = c.each_small_same.ensures ∙ sym (pairs_same to_ascii_lowercase c.args.units.now c.args.word.now (omega arith))
