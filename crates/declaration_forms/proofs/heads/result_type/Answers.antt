use Rattle.std.proofs.Common.{◌∙◌, sym, ap, subst}
use Rattle.vb_tree.specs.View.{result_of}
use Rattle.form_parts.specs.Answer.{Answers}
use Rattle.declaration_forms.specs.Heads.{IsResultCut, result_depth}
use Rattle.declaration_forms.specs.Now.{tokens_now}
use Rattle.declaration_forms.proofs.heads.result_type.Goals as goal

pub returns-in-None : goal.returns-in-None
returns-in-None c = subst (λ z. Answers result_of (IsResultCut c.args.tokens.now z) result_depth c.result_with.result) (sym (ap tokens_now c.in-None.is) ∙ c.result_cut.ensures) c.result_with.ensures

pub returns-in-Some : goal.returns-in-Some
returns-in-Some c = subst (λ z. Answers result_of (IsResultCut c.args.tokens.now z) result_depth c.result_with-in-Some.result) (sym (ap tokens_now c.in-Some.is) ∙ c.result_cut.ensures) c.result_with-in-Some.ensures
