use Rattle.std.proofs.Common.{◌^◌}
use Rattle.net_exprs.proofs.Fronts.{too_large}
use Rattle.net_exprs.proofs.numerals.numeral.Goals as goal

pub returns-in_err-n : goal.returns-in_err-n
returns-in_err-n c =
    rw c.from_residual.ensures
    (too_large c.args.base c.digits.n c.in-Some.digit (2 ^ 128) c.digits.rest.now _ c.requires.low c.in-len1-up.len_at_least c.in-Some.ensures.0 c.in-Some.ensures.1 c.digits.invariant c.in_err-n.ensures)
