use Rattle.command_words.proofs.Asking.{refutes_check, refutes_upgrade, some_form}
use Rattle.command_words.proofs.Found.{passed_on}
use Rattle.command_words.proofs.reading.asked_by.Goals as goal

pub returns-in_err-form_of-clause-no_form : goal.returns-in_err-form_of-clause-no_form
returns-in_err-form_of-clause-no_form c is a asks = some_form _ a asks (c.in_err-form_of.ensures.no_form (passed_on _ _ c.from_residual.ensures.1 is))

pub returns-in_err-file-in-Upgrade-clause-no_form : goal.returns-in_err-file-in-Upgrade-clause-no_form
returns-in_err-file-in-Upgrade-clause-no_form c is a asks =
    refutes_upgrade _ (rw c.in-Upgrade.is at c.in_ok-form_of.ensures.form)
    (c.in_err-file-in-Upgrade.ensures.no_form (passed_on _ _ c.from_residual-in_err-file-in-Upgrade.ensures.1 is)) a asks

pub returns-in_err-file-in-Check-clause-no_form : goal.returns-in_err-file-in-Check-clause-no_form
returns-in_err-file-in-Check-clause-no_form c is a asks =
    refutes_check _ (rw c.in-Check.is at c.in_ok-form_of.ensures.form)
    (c.in_err-file-in-Check.ensures.no_form (passed_on _ _ c.from_residual-in_err-file-in-Check.ensures.1 is)) a asks
