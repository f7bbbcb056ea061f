use Rattle.vb_tree.specs.View.{exp_of}
use Rattle.vb_tree.specs.Expressions.{depth_of}
use Rattle.statement_forms.specs.LineForms.{IsComputed}
use Rattle.statement_forms.proofs.Making.{kept_answers}
use Rattle.statement_forms.proofs.forms.computed_jump.Goals as goal

pub returns : goal.returns
returns c = kept_answers exp_of (IsComputed c.args.tokens.now) depth_of c.args.tokens.now c.computed.result c.kept_if.result c.computed.ensures c.kept_if.ensures
