use Rattle.std.proofs.Common.{sym, ap, ◌∙◌, codes}
use Rattle.vb_tree.specs.View.{exp_of}
use Rattle.vb_tree.specs.Expressions.{depth_of}
use Rattle.form_parts.specs.Chains.{IsTarget}
use Rattle.statement_forms.specs.Answer.{tail_now}
use Rattle.statement_forms.specs.Fronts.{behind_key}
use Rattle.statement_forms.proofs.Making.{behind_answers}
use Rattle.statement_forms.proofs.parts.calling.Goals as goal

pub returns : goal.returns
returns c =
    behind_answers (behind_key (codes "call") c.args.tokens.now) c.in-Some.rest.now exp_of IsTarget depth_of c.target.result (sym c.behind_key.ensures ∙ ap tail_now c.in-Some.is) c.target.ensures
