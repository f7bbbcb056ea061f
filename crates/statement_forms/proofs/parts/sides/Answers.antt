use Rattle.std.proofs.Common.{sym, ap, ◌∙◌}
use Rattle.vb_tree.specs.View.{exp_of}
use Rattle.vb_tree.specs.Expressions.{IsExpression, depth_of}
use Rattle.form_parts.specs.declared.cuts.Separator.TheVariants as sep
use Rattle.form_parts.specs.Chains.{IsTarget}
use Rattle.form_parts.specs.Cuts.{parted}
use Rattle.form_parts.specs.Now.{both_now}
use Rattle.statement_forms.specs.LineForms.{pair_depth}
use Rattle.statement_forms.specs.Answer.{pair_of}
use Rattle.statement_forms.proofs.Making.{behind_answers}
use Rattle.statement_forms.proofs.Sharing.{both_known}
use Rattle.statement_forms.proofs.parts.sides.Goals as goal

pub returns : goal.returns
returns c =
    let l = c.in-Some.left.now in
    let r = c.in-Some.right.now in
    let both = both_known exp_of exp_of (IsTarget c.in-Some.left.now) (IsExpression c.in-Some.right.now) depth_of depth_of c.target.result c.expression.result c.both.result c.target.ensures c.expression.ensures c.both.ensures in
    behind_answers (parted sep.Equal c.args.tokens.now) (l, r) pair_of (λ p x. IsTarget p.0 x.0 × IsExpression p.1 x.1) pair_depth c.both.result (sym c.parted.ensures ∙ ap both_now c.in-Some.is) both
