use Rattle.command_words.proofs.Found.{seen_first}
use Rattle.command_words.proofs.forms.form_of.Goals as goal

pub returns-in_ok-form_named-in-len1-up-clause-form : goal.returns-in_ok-form_named-in-len1-up-clause-form
returns-in_ok-form_named-in-len1-up-clause-form c =
    seen_first c.args.texts.now _ _ c.in-len1-up.len_at_least c.in_ok-form_named-in-len1-up.ensures.form
