use Rattle.std.proofs.Common.{arith, sym, ◌∙◌}
use Rattle.vb_lexer.proofs.Continuations.{no_place, other_place, last_place}
use Rattle.vb_lexer.proofs.physical.continuation.Goals as goal

pub returns-then-n-lt2-clause-continued : goal.returns-then-n-lt2-clause-continued
returns-then-n-lt2-clause-continued c =
    no_place c.solid_units-n.result c.args.line.now (omega arith) c.solid_units-n.ensures.blank c.solid_units-n.ensures.solid

pub returns-then-not-is_continuation_at-clause-continued : goal.returns-then-not-is_continuation_at-clause-continued
returns-then-not-is_continuation_at-clause-continued c =
    other_place c.solid_units-n.result c.args.line.now (omega arith) c.solid_units-n.ensures.within c.solid_units-n.ensures.blank
    (c.solid_units-n.ensures.solid (omega arith)) (sym c.is_continuation_at.ensures.continuation ∙ c.if-not-is_continuation_at.true)

pub returns-clause-continued : goal.returns-clause-continued
returns-clause-continued c =
    last_place c.solid_units-n.result c.args.line.now (omega arith) c.solid_units-n.ensures.within c.solid_units-n.ensures.blank
    (c.solid_units-n.ensures.solid (omega arith)) (sym c.is_continuation_at.ensures.continuation ∙ c.if-not-is_continuation_at.false)
