use Rattle.std.proofs.Common.{◌∙◌, sym, ap, subst}
use Rattle.vb_tree.specs.Tree.{static_head}
use Rattle.vb_tree.specs.View.{form_of}
use Rattle.form_parts.specs.Answer.{Answers}
use Rattle.declaration_forms.specs.DeclarationForms.{HeadLine, form_depth}
use Rattle.declaration_forms.specs.Now.{outline_now}
use Rattle.declaration_forms.specs.Variables.{Outlines}
use Rattle.declaration_forms.proofs.declaration.static_line.Goals as goal

pub returns-in-Some : goal.returns-in-Some
returns-in-Some c =
    subst (λ z. Answers form_of (Outlines (HeadLine c.args.kind c.args.seen (static_head c.args.kind)) z) form_depth c.outlined_static.result)
    (sym (ap outline_now c.in-Some.is) ∙ c.outline_of.ensures)
    c.outlined_static.ensures
