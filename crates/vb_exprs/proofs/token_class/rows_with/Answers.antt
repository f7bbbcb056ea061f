use Rattle.std.proofs.Common.{arith, ap, map, ◌∙◌}
use Rattle.vb_exprs.proofs.Keywords.{letter_rows, no_letter_rows, none_before}
use Rattle.vb_exprs.proofs.token_class.rows_with.Goals as goal

pub returns-then-letter-lt97 : goal.returns-then-letter-lt97
returns-then-letter-lt97 c = none_before c.args.letter (omega (arith, c.if-letter-lt97.true))

pub returns-in-Some : goal.returns-in-Some
returns-in-Some c =
    let found = c.in-Some.ensures.lookup.3 in
    ap (λ g. map (λ r. (r.0.now, r.1)) g.now) (found.1 c.in-Some.rows.now)
    ∙ letter_rows c.table.result.now c.from.result c.args.letter c.in-Some.rows.now (omega (arith, c.if-letter-lt97.false)) c.from.ensures c.table.ensures found.0

pub returns-in-None : goal.returns-in-None
returns-in-None c =
    no_letter_rows c.table.result.now c.from.result c.args.letter (omega (arith, c.if-letter-lt97.false)) c.from.ensures c.table.ensures c.in-None.ensures.lookup.3
