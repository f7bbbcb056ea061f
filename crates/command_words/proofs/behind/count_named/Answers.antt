use Rattle.std.proofs.Common.{sym, ◌∙◌}
use Rattle.std.proofs.lemmas.List.{length-map}
use Rattle.command_words.proofs.Counts.{count_is_named, count_named_is_found}
use Rattle.command_words.proofs.Found.{passed_on}
use Rattle.command_words.proofs.behind.count_named.Goals as goal

pub returns-in_err-found-clause-no_form : goal.returns-in_err-found-clause-no_form
returns-in_err-found-clause-no_form c is n named =
    c.in_err-found.ensures.no_form (passed_on _ _ c.from_residual.ensures.1 is) (count_named_is_found _ n named).faultless

pub returns-in_err-number-clause-no_form : goal.returns-in_err-number-clause-no_form
returns-in_err-number-clause-no_form c is n named =
    c.in_err-number.ensures.no_form (passed_on _ _ c.from_residual-in_err-number.ensures.1 is) n named.0 named.1
    (c.in_ok-found.ensures.count ∙ (count_named_is_found _ n named).found)

pub returns-clause-names : goal.returns-clause-names
returns-clause-names c p =
    count_is_named _ _ (length-map c.args.texts.now (λ t. t.now) ∙ c.if-texts-ne2.false) p c.in_ok-found.ensures.taken
    (sym c.in_ok-found.ensures.count ∙ c.in_ok-number.ensures.digits) c.in_ok-number.ensures.least c.in_ok-number.ensures.most
