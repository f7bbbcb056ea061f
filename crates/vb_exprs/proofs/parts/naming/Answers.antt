use Rattle.vb_exprs.proofs.Symbols.{naming_front}
use Rattle.vb_exprs.proofs.parts.naming.Goals as goal

pub returns : goal.returns
returns c =
    naming_front c.args.tokens.now c.in_ok-class.rest.now c.in_ok-class.first.now c.in_ok-class.class _ c.in_ok-class.ensures.0 c.in_ok-class.ensures.1 c.in-Naming.is c.in_ok-word.ensures.1
