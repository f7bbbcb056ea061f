use Rattle.vb_tree.specs.Tree.{debug_print}
use Rattle.statement_forms.specs.LineForms.{IsPrinting, printing_depth}
use Rattle.statement_forms.proofs.Making.{made_fails}
use Rattle.statement_forms.proofs.forms.print_items.Goals as goal

pub returns-in-Err : goal.returns-in-Err
returns-in-Err c = made_fails (IsPrinting c.args.tokens.now) (λ x. debug_print x.0 x.1) printing_depth c.in-Err.e c.in-Err.ensures
