use Rattle.std.proofs.Common.{◌∙◌, ap, map, refl, sym, List, ℕ}
use Rattle.vb_tree.specs.declared.form.CodeLine.{CodeLine}
use Rattle.vb_tree.specs.View.{form_of, line_of}
use Rattle.declared_names.specs.Declaring.{field_declares, fields_declare, follow, with_declared}
use Rattle.declared_names.specs.View.{names_of}
use Rattle.declared_names.proofs.Loops.{loop_done, loop_more}
use Rattle.declared_names.proofs.groups.put_fields.Goals as goal

pub loop-line-preserved : goal.loop-line-preserved
loop-line-preserved c =
    loop_more (λ (xs : List CodeLine). fields_declare c.args.owner c.loop-line.next (map line_of xs))
    (λ (xs : List CodeLine). fields_declare c.args.owner c.in_ok-next.next (map line_of xs))
    (field_declares c.args.owner c.loop-line.next (line_of c.line-item.result).place (line_of c.line-item.result).form)
    c.args.lines.now c.loop-line.line-index c.line-item.result _ _ c.loop-line-test.true c.line-item.is
    (λ (rest : List CodeLine). ap (λ (n : ℕ). follow (field_declares c.args.owner c.loop-line.next (line_of c.line-item.result).place (line_of c.line-item.result).form) (fields_declare c.args.owner n (map line_of rest))) (sym c.in_ok-next.ensures))
    (c.in_ok-put_field_line.ensures
    ∙ ap (λ f. with_declared (field_declares c.args.owner c.loop-line.next c.line-item.result.place (form_of f)) (names_of c.loop-line.to)) c.deref.ensures)
    ∙ c.loop-line.invariant

pub returns : goal.returns
returns c =
    sym (loop_done (λ (xs : List CodeLine). fields_declare c.args.owner c.loop-line.next (map line_of xs))
    c.args.lines.now c.loop-line.line-index (names_of c.loop-line.to) c.loop-line-test.false refl)
    ∙ c.loop-line.invariant
