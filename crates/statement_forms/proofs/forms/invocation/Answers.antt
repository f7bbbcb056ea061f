use Rattle.std.proofs.Common.{◌∙◌, ap}
use Rattle.vb_tree.specs.Tree.{invoke}
use Rattle.vb_tree.specs.View.{exp_of}
use Rattle.form_parts.specs.Arguments.{args_from}
use Rattle.statement_forms.specs.LineForms.{IsInvocation, invocation_depth}
use Rattle.statement_forms.specs.Answer.{invocation_of}
use Rattle.statement_forms.proofs.Making.{made_answers, args_viewed}
use Rattle.statement_forms.proofs.forms.invocation.Goals as goal

pub returns-in_ok-invoked-in-Ok : goal.returns-in_ok-invoked-in-Ok
returns-in_ok-invoked-in-Ok c =
    made_answers invocation_of (IsInvocation c.args.tokens.now) (λ x. invoke x.0 (args_from x.1)) invocation_depth c.in-Ok.parts c.in_ok-invoked-in-Ok.field-0 c.in-Ok.ensures (c.in_ok-invoked-in-Ok.ensures ∙ ap (invoke (exp_of c.in-Ok.parts.0)) (args_viewed c.in-Ok.parts.1))
