use Rattle.std.proofs.Common.{sym, ◌∙◌}
use Rattle.command_words.proofs.Found.{printable_utf8}
use Rattle.command_words.proofs.texts.text_of.Goals as goal

pub returns-in-Err-clause-no_form : goal.returns-in-Err-clause-no_form
returns-in-Err-clause-no_form c _ = absurd (c.in-Err.ensures.cases.0 (printable_utf8 c.args.word.now (sym c.is_printable.ensures ∙ c.if-not-is_printable.false)))
