use Rattle.vb_exprs.proofs.reader.simple.Goals as goal

pub returns-in_default-clause-given : goal.returns-in_default-clause-given
returns-in_default-clause-given c = rw c.in_default.is at c.in_ok-expr.ensures.given
