use Rattle.std.proofs.Common.{◌∙◌, sym, ap, subst}
use Rattle.vb_tree.specs.View.{form_of}
use Rattle.form_parts.specs.Answer.{Answers}
use Rattle.form_parts.specs.Now.{both_now}
use Rattle.declaration_forms.specs.DeclarationForms.{form_depth}
use Rattle.declaration_forms.specs.Variables.{IsMemberCut}
use Rattle.declaration_forms.proofs.variables.member.Goals as goal

pub returns-in-None : goal.returns-in-None
returns-in-None c = subst (λ z. Answers form_of (IsMemberCut c.args.line.now z) form_depth c.member_of.result) (sym (ap both_now c.in-None.is) ∙ c.parted.ensures) c.member_of.ensures

pub returns-in-Some : goal.returns-in-Some
returns-in-Some c = subst (λ z. Answers form_of (IsMemberCut c.args.line.now z) form_depth c.member_of-in-Some.result) (sym (ap both_now c.in-Some.is) ∙ c.parted.ensures) c.member_of-in-Some.ensures
