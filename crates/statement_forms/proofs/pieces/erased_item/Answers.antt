use Rattle.vb_tree.specs.Tree.{erase}
use Rattle.vb_tree.specs.Expressions.{depth_of}
use Rattle.form_parts.specs.Chains.{IsCallee}
use Rattle.statement_forms.proofs.Making.{made_fails}
use Rattle.statement_forms.proofs.pieces.erased_item.Goals as goal

pub returns-in-Err : goal.returns-in-Err
returns-in-Err c = made_fails (IsCallee c.args.tokens.now) erase depth_of c.in-Err.e c.in-Err.ensures
