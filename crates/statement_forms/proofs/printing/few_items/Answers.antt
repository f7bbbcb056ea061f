use Rattle.std.proofs.Common.{arith}
use Rattle.statement_forms.proofs.Sharing.{few_fails, many_items}
use Rattle.statement_forms.proofs.printing.few_items.Goals as goal

pub returns-then-len-gt-ITEM_LIMIT : goal.returns-then-len-gt-ITEM_LIMIT
returns-then-len-gt-ITEM_LIMIT c = many_items c.args.tokens.now c.args.ended c.in-Ok.items c.in-Ok.ensures.0 (omega arith)

pub returns-in-Err : goal.returns-in-Err
returns-in-Err c = few_fails c.args.tokens.now c.args.ended c.in-Err.e c.in-Err.ensures
