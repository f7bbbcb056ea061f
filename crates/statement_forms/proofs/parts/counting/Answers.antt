use Rattle.std.proofs.Common.{sym, ap, ◌∙◌, codes}
use Rattle.vb_tree.specs.View.{exp_of}
use Rattle.vb_tree.specs.Expressions.{depth_of}
use Rattle.form_parts.specs.declared.cuts.Separator.TheVariants as sep
use Rattle.form_parts.specs.Chains.{IsTarget}
use Rattle.form_parts.specs.Cuts.{parted}
use Rattle.form_parts.specs.Now.{both_now}
use Rattle.statement_forms.specs.Fronts.{behind_key}
use Rattle.statement_forms.specs.LineForms.{Behind, IsRange, range_depth, counting_depth}
use Rattle.statement_forms.specs.Answer.{tail_now, range_of, counting_of}
use Rattle.statement_forms.proofs.Making.{behind_answers}
use Rattle.statement_forms.proofs.Sharing.{both_known}
use Rattle.statement_forms.proofs.parts.counting.Goals as goal

pub returns : goal.returns
returns c =
    let l = c.in-Some-parted.left.now in
    let r = c.in-Some-parted.right.now in
    let both = both_known exp_of range_of (IsTarget c.in-Some-parted.left.now) (IsRange c.in-Some-parted.right.now) depth_of range_depth c.target.result c.range.result c.both.result c.target.ensures c.range.ensures c.both.ensures in
    let cut = behind_answers (parted sep.Equal c.in-Some.rest.now) (l, r) counting_of (λ p x. IsTarget p.0 x.0 × IsRange p.1 x.1) counting_depth c.both.result (sym c.parted.ensures ∙ ap both_now c.in-Some-parted.is) both in
    behind_answers (behind_key (codes "for") c.args.tokens.now) c.in-Some.rest.now counting_of (λ rest x. Behind (parted sep.Equal rest) (λ p. IsTarget p.0 x.0 × IsRange p.1 x.1)) counting_depth c.both.result (sym c.behind_key.ensures ∙ ap tail_now c.in-Some.is) cut
