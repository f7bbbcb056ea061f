use Rattle.std.proofs.Common.{sym, ◌∙◌}
use Rattle.vb_lexer.proofs.CleanLines.{clean_line}
use Rattle.vb_lexer.proofs.faults.first_fault.Goals as goal

pub returns-then-is_clean : goal.returns-then-is_clean
returns-then-is_clean c =
    sym (clean_line c.args.directive c.args.stop c.args.place.file c.args.place.line c.args.units.now (sym c.is_clean.ensures ∙ c.if-is_clean.true))
