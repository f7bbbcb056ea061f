use Rattle.std.proofs.Common.{◌∙◌}
use Rattle.command_words.proofs.Found.{count_faultless, count_is_found, count_memory, no_form_is}
use Rattle.command_words.proofs.behind.found_count.Goals as goal

pub returns-in-Ok-clause-taken : goal.returns-in-Ok-clause-taken
returns-in-Ok-clause-taken c = count_faultless _ _ c.in_ok-command.ensures c.in-Ok.ensures.kinds

pub returns-in-Ok-clause-count : goal.returns-in-Ok-clause-count
returns-in-Ok-clause-count c = c.get_str.ensures ∙ count_is_found _ _ _ c.in_ok-command.ensures c.in-Ok.ensures.matches

pub returns-in-Err-clause-no_form : goal.returns-in-Err-clause-no_form
returns-in-Err-clause-no_form c is none = c.fail_of.ensures (no_form_is _ is) (count_memory _ _ c.in-Err.error c.in_ok-command.ensures c.in-Err.ensures.kinds none)
