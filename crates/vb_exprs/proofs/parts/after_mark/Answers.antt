use Rattle.vb_exprs.proofs.Symbols.{by_val_front, hash_front}
use Rattle.vb_exprs.proofs.parts.after_mark.Goals as goal

pub returns-in-ByVal-clause-is : goal.returns-in-ByVal-clause-is
returns-in-ByVal-clause-is c =
    by_val_front c.args.tokens.now c.in_ok-class.rest.now c.in_ok-class.field-0-1.now c.in_ok-class.class c.in_ok-class.ensures.0 c.in_ok-class.ensures.1 c.in-ByVal.is

pub returns-in-Hash-clause-is : goal.returns-in-Hash-clause-is
returns-in-Hash-clause-is c =
    hash_front c.args.tokens.now c.in_ok-class.rest.now c.in_ok-class.field-0-1.now c.in_ok-class.class c.in_ok-class.ensures.0 c.in_ok-class.ensures.1 c.in-Hash.is
