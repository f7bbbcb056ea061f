use Rattle.std.proofs.Common.{◌∙◌, ap, sym}
use Rattle.std.proofs.lemmas.List.{length-map}
use Rattle.vb_tree.specs.View.{form_of}
use Rattle.declared_names.specs.Declaring.{enum_line_declares, with_declared}
use Rattle.declared_names.specs.View.{constant_of, names_of}
use Rattle.declared_names.proofs.Loops.{members_end, members_step}
use Rattle.declared_names.proofs.groups.put_members.Goals as goal

pub loop-line-preserved : goal.loop-line-preserved
loop-line-preserved c =
    members_step c.args.scope c.args.file c.loop-line.before c.loop-line.next c.in_ok-next.next c.in_ok-number.field-0
    c.args.lines.now c.loop-line.line-index c.line-item.result (names_of c.loop-line.to) _ c.loop-line-test.true c.line-item.is c.in_ok-next.ensures
    (c.in_ok-number.ensures ∙ c.len.ensures ∙ sym (length-map c.loop-line.to.consts constant_of))
    (c.in_ok-put_member.ensures
    ∙ ap (λ f. with_declared (enum_line_declares c.args.scope c.args.file c.loop-line.before c.loop-line.next c.line-item.result.place (form_of f)) (names_of c.loop-line.to)) c.deref.ensures)
    ∙ c.loop-line.invariant

pub returns : goal.returns
returns c =
    sym (members_end c.args.scope c.args.file c.loop-line.before c.loop-line.next c.args.lines.now c.loop-line.line-index (names_of c.loop-line.to) c.loop-line-test.false)
    ∙ c.loop-line.invariant
