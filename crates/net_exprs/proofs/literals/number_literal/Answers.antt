use Rattle.std.proofs.Common.{arith, ap, length}
use Rattle.net_exprs.proofs.Answering.{shorter_up}
use Rattle.net_exprs.proofs.Fronts.{numeral_shorter}
use Rattle.net_exprs.proofs.literals.number_literal.Goals as goal

pub returns-clause-shorter : goal.returns-clause-shorter
returns-clause-shorter c =
    shorter_up c.decimal_literal.result (length c.in-Some.rest.now) (length c.args.text.now)
    (omega (arith, numeral_shorter c.args.text.now c.requires, ap length c.in-Some.ensures.1)) c.decimal_literal.ensures.shorter
