use Rattle.std.proofs.Common.{◌∙◌, sym}
use Rattle.net_emitter.proofs.Bracketing.{is_found, nothing_found, none_found}
use Rattle.net_emitter.proofs.words.is_bracketed.Goals as goal

pub returns : goal.returns
returns c =
    c.is_among.ensures
    ∙ is_found c.words_by_letter.result.now c.lower_bytes-word.result.now c.args.name.now c.in-Some.first.now c.from.result _ c.lower_bytes-word.ensures c.words_by_letter.ensures c.from.ensures (c.in-Some.ensures.item.3.0) (c.in-Some.ensures.item.3.1 0) (sym c.is_ascii_lowercase.ensures.value ∙ c.if-not-is_ascii_lowercase.false)

pub returns-in_default : goal.returns-in_default
returns-in_default c =
    nothing_found c.lower_bytes-word.result.now c.args.name.now c.lower_bytes-word.ensures c.in_default.ensures.item.3

pub returns-then-not-is_ascii_lowercase : goal.returns-then-not-is_ascii_lowercase
returns-then-not-is_ascii_lowercase c =
    none_found c.lower_bytes-word.result.now c.args.name.now c.in-Some.first.now c.lower_bytes-word.ensures c.in-Some.ensures.item.3.0 (c.in-Some.ensures.item.3.1 0) (sym c.is_ascii_lowercase.ensures.value ∙ c.if-not-is_ascii_lowercase.true)
