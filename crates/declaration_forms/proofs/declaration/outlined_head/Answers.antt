use Rattle.std.proofs.Common.{option_map, subst}
use Rattle.vb_tree.specs.View.{signature_of, result_of}
use Rattle.form_parts.specs.Answer.{Answers}
use Rattle.declaration_forms.specs.DeclarationForms.{HeadOf, pair_depth}
use Rattle.declaration_forms.specs.Heading.{head_plain}
use Rattle.declaration_forms.specs.Now.{outlined_now}
use Rattle.declaration_forms.proofs.Lines.{head_gives, head_line_fails}
use Rattle.declaration_forms.proofs.declaration.outlined_head.Goals as goal

pub returns-in-Ok : goal.returns-in-Ok
returns-in-Ok c =
    let h = subst (λ z. Answers head_plain (HeadOf c.args.kind c.args.seen (outlined_now c.args.outline)) pair_depth z) c.in-Ok.is c.head_in.ensures in
    rw c.head_form.ensures (head_gives c.args.kind c.args.seen (outlined_now c.args.outline) (head_plain c.in-Ok.field-0).0 (head_plain c.in-Ok.field-0).1 h.0 h.1)

pub returns-in-Err : goal.returns-in-Err
returns-in-Err c = head_line_fails c.args.kind c.args.seen (outlined_now c.args.outline) c.in-Err.e c.in-Err.ensures
