use Rattle.std.proofs.Common.{inl, inr, refl}
use Rattle.wizard_cli.proofs.Ends.{check_ends, done_is_upgraded, fault_ends, make_ends, none_asked_ends, read_failed, rules_end, settings_end, untouched, upgrade_ends, write_failed}
use Rattle.wizard_cli.proofs.run.Goals as goal

pub returns-in-Ok-clause-answered : goal.returns-in-Ok-clause-answered
returns-in-Ok-clause-answered g c =
    (c.answer-answer.result, c.answer-answer.ensures.answer, inl (c.status.ensures, rw (c.as_slice.ensures, c.message.ensures) at c.in-Ok.ensures.said))

pub returns-in-Ok-clause-upgraded : goal.returns-in-Ok-clause-upgraded
returns-in-Ok-clause-upgraded g c = done_is_upgraded c.args.words.now _ _ _ c.answer-answer.result c.status.result c.status.ensures c.answer-answer.ensures.answer

pub returns-in-Ok-clause-no_words : goal.returns-in-Ok-clause-no_words
returns-in-Ok-clause-no_words g c =
    none_asked_ends c.args.words.now _ _ _ c.answer-answer.result _ _ c.status.result c.answer-answer.ensures.answer (inl (c.status.ensures, rw (c.as_slice.ensures, c.message.ensures) at c.in-Ok.ensures.said))

pub returns-in-Ok-clause-settings_refused : goal.returns-in-Ok-clause-settings_refused
returns-in-Ok-clause-settings_refused g c =
    settings_end c.args.words.now _ _ _ c.answer-answer.result _ _ c.status.result c.answer-answer.ensures.answer (inl (c.status.ensures, rw (c.as_slice.ensures, c.message.ensures) at c.in-Ok.ensures.said))

pub returns-in-Ok-clause-refused : goal.returns-in-Ok-clause-refused
returns-in-Ok-clause-refused g c =
    fault_ends c.args.words.now _ _ _ c.answer-answer.result _ _ c.status.result c.answer-answer.ensures.answer (inl (c.status.ensures, rw (c.as_slice.ensures, c.message.ensures) at c.in-Ok.ensures.said))

pub returns-in-Ok-clause-completed : goal.returns-in-Ok-clause-completed
returns-in-Ok-clause-completed g c = upgrade_ends c.args.words.now _ _ _ _ _ _ c.answer-answer.result c.status.result c.status.ensures c.answer-answer.ensures.failed c.answer-answer.ensures.answer

pub returns-in-Ok-clause-completed_check : goal.returns-in-Ok-clause-completed_check
returns-in-Ok-clause-completed_check g c = check_ends c.args.words.now _ _ _ _ _ _ c.answer-answer.result c.status.result c.status.ensures c.answer-answer.ensures.failed c.answer-answer.ensures.answer

pub returns-in-Ok-clause-completed_make : goal.returns-in-Ok-clause-completed_make
returns-in-Ok-clause-completed_make g c = λ n asks no_console. make_ends c.args.words.now _ _ _ c.answer-answer.result c.status.result c.status.ensures c.answer-answer.ensures.answer n asks

pub returns-in-Ok-clause-completed_rules : goal.returns-in-Ok-clause-completed_rules
returns-in-Ok-clause-completed_rules g c = λ asks no_console. rules_end c.args.words.now _ _ _ c.answer-answer.result c.status.result c.status.ensures c.answer-answer.ensures.answer asks

pub returns-in-Ok-clause-untouched : goal.returns-in-Ok-clause-untouched
returns-in-Ok-clause-untouched g c = untouched c.args.words.now _ _ _ c.answer-answer.result c.status.result c.status.ensures c.answer-answer.ensures.answer

pub returns-in-Ok-clause-read_fault : goal.returns-in-Ok-clause-read_fault
returns-in-Ok-clause-read_fault g c = read_failed _ _ c.answer-answer.result c.status.result c.status.ensures c.answer-answer.ensures.failed

pub returns-in-Ok-clause-write_fault : goal.returns-in-Ok-clause-write_fault
returns-in-Ok-clause-write_fault g c = write_failed _ _ c.answer-answer.result c.status.result c.status.ensures c.answer-answer.ensures.failed

pub returns-clause-answered : goal.returns-clause-answered
returns-clause-answered g c = (c.answer-answer.result, c.answer-answer.ensures.answer, inr (refl, rw (c.as_slice.ensures, c.message.ensures) at c.in-Err.ensures.said))

pub returns-clause-settings_refused : goal.returns-clause-settings_refused
returns-clause-settings_refused g c =
    settings_end c.args.words.now _ _ _ c.answer-answer.result _ _ _ c.answer-answer.ensures.answer (inr (refl, rw (c.as_slice.ensures, c.message.ensures) at c.in-Err.ensures.said))

pub returns-clause-refused : goal.returns-clause-refused
returns-clause-refused g c =
    fault_ends c.args.words.now _ _ _ c.answer-answer.result _ _ _ c.answer-answer.ensures.answer (inr (refl, rw (c.as_slice.ensures, c.message.ensures) at c.in-Err.ensures.said))
