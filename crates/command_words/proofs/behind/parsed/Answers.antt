use Rattle.std.proofs.Common.{sym, arith, ◌∙◌}
use Rattle.std.proofs.lemmas.Fmt.{parse-decimal}
use Rattle.command_words.proofs.behind.parsed.Goals as goal

pub returns-in-Ok : goal.returns-in-Ok
returns-in-Ok c n most is = parse-decimal 32 n _ _ (omega (arith, most)) (omega (arith, most)) is c.in-Ok.ensures.value.0

pub returns-in-Err : goal.returns-in-Err
returns-in-Err c n most is =
    let bad = sym c.in-Err.is ∙ parse-decimal 32 n _ c.parse.result (omega (arith, most)) (omega (arith, most)) is c.parse.ensures.value.0 in
    absurd (cc bad)
