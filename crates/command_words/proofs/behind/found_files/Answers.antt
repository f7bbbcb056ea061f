use Rattle.std.proofs.Common.{◌∙◌}
use Rattle.command_words.proofs.Found.{file_faultless, file_is_found, file_memory, no_form_is}
use Rattle.command_words.proofs.behind.found_files.Goals as goal

pub returns-in-Ok-clause-taken : goal.returns-in-Ok-clause-taken
returns-in-Ok-clause-taken c = file_faultless _ _ c.in_ok-command.ensures c.in-Ok.ensures.kinds

pub returns-in-Ok-clause-file : goal.returns-in-Ok-clause-file
returns-in-Ok-clause-file c = c.get_str.ensures ∙ file_is_found _ _ _ _ c.in_ok-command.ensures c.in-Ok.ensures.matches

pub returns-in-Ok-clause-settings : goal.returns-in-Ok-clause-settings
returns-in-Ok-clause-settings c = c.get_str-in-Ok.ensures ∙ file_is_found _ _ _ _ c.in_ok-command.ensures c.in-Ok.ensures.matches

pub returns-in-Err-clause-no_form : goal.returns-in-Err-clause-no_form
returns-in-Err-clause-no_form c is none = c.fail_of.ensures (no_form_is _ is) (file_memory _ _ c.in-Err.error c.in_ok-command.ensures c.in-Err.ensures.kinds none)
