use Rattle.std.proofs.Common.{◌≡◌, true, false, sym, subst, ◌∙◌}
use Rattle.command_words.specs.Asks.{AreSettings}
use Rattle.command_words.proofs.Found.{passed_on}
use Rattle.command_words.proofs.Requests.{found_is_named, named_is_found}
use Rattle.command_words.proofs.behind.files_named.Goals as goal

pub returns-in_err-found-clause-no_form : goal.returns-in_err-found-clause-no_form
returns-in_err-found-clause-no_form c is f s named =
    c.in_err-found.ensures.no_form (passed_on _ _ c.from_residual.ensures.1 is) (named_is_found _ f s named).faultless

pub returns-in_err-file-clause-no_form : goal.returns-in_err-file-clause-no_form
returns-in_err-file-clause-no_form c is f s named =
    let found = named_is_found _ f s named in
    let bad : true ≡ false = sym named.is_file ∙ c.in_err-file.ensures.no_form (passed_on _ _ c.from_residual-in_err-file.ensures.1 is) f (c.in_ok-found.ensures.file ∙ found.file_is) in
    cc bad

pub returns-in_err-settings-clause-no_form : goal.returns-in_err-settings-clause-no_form
returns-in_err-settings-clause-no_form c is f s named =
    let found = named_is_found _ f s named in
    c.in_err-settings.ensures.no_form (passed_on _ _ c.from_residual-in_err-settings.ensures.1 is)
    (subst AreSettings (sym (c.in_ok-found.ensures.settings ∙ found.settings_are)) named.are_settings)

pub returns-clause-names : goal.returns-clause-names
returns-clause-names c p =
    found_is_named _ _ _ p (sym c.ends_in_dashes.ensures ∙ c.if-ends_in_dashes.false) c.in_ok-found.ensures.taken
    (sym c.in_ok-found.ensures.file ∙ c.in_ok-file.ensures.name) (sym c.in_ok-found.ensures.settings ∙ sym c.in_ok-settings.ensures.name)
    c.in_ok-file.ensures.project c.in_ok-settings.ensures.settings
