use Rattle.std.proofs.Common.{◌∙◌, sym, ap, subst}
use Rattle.vb_tree.specs.View.{param_of}
use Rattle.form_parts.specs.Answer.{Answers}
use Rattle.form_parts.specs.Now.{both_now}
use Rattle.declaration_forms.specs.Heads.{IsParamCut, param_depth}
use Rattle.declaration_forms.proofs.heads.Param6Item.read.Goals as goal

pub returns-in-None : goal.returns-in-None
returns-in-None c = subst (λ z. Answers param_of (IsParamCut c.args.tokens.now z) param_depth c.param_of.result) (sym (ap both_now c.in-None.is) ∙ c.parted.ensures) c.param_of.ensures

pub returns-in-Some : goal.returns-in-Some
returns-in-Some c = subst (λ z. Answers param_of (IsParamCut c.args.tokens.now z) param_depth c.param_of-in-Some.result) (sym (ap both_now c.in-Some.is) ∙ c.parted.ensures) c.param_of-in-Some.ensures
