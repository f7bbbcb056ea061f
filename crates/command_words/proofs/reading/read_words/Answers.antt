use Rattle.std.proofs.Common.{◌≡◌, true, false, ap, sym, ◌∙◌}
use Rattle.command_words.specs.Commands.{are_printable}
use Rattle.command_words.proofs.Asking.{asks_printable}
use Rattle.command_words.proofs.Found.{passed_on}
use Rattle.command_words.proofs.reading.read_words.Goals as goal

pub returns-in_err-texts-clause-no_form : goal.returns-in_err-texts-clause-no_form
returns-in_err-texts-clause-no_form c is a asks =
    let bad : true ≡ false = sym (asks_printable _ a asks) ∙ ap are_printable (sym c.as_slice.ensures) ∙ c.in_err-texts.ensures.no_form (passed_on _ _ c.from_residual.ensures.1 is) in
    cc bad
