use Rattle.std.proofs.Common.{◌∙◌, ap, map, refl, sym, List, ℕ, Bor}
use Rattle.vb_tree.specs.declared.form.CodeLine.{CodeLine}
use Rattle.vb_tree.specs.View.{form_of, line_of}
use Rattle.declared_names.specs.Declaring.{follow, local_declares, locals_declare, with_declared}
use Rattle.declared_names.specs.View.{names_of}
use Rattle.declared_names.proofs.Loops.{loop_done, loop_more}
use Rattle.declared_names.proofs.procedures.put_locals.Goals as goal

pub loop-line-preserved : goal.loop-line-preserved
loop-line-preserved c =
    loop_more (λ (xs : List (Bor CodeLine)). locals_declare c.args.procedure c.loop-line.next (map (λ x. line_of x.now) xs))
    (λ (xs : List (Bor CodeLine)). locals_declare c.args.procedure c.in_ok-next.next (map (λ x. line_of x.now) xs))
    (local_declares c.args.procedure c.loop-line.next (line_of c.line-item.result.now).place (line_of c.line-item.result.now).form)
    c.args.lines.now c.loop-line.line-index c.line-item.result _ _ c.loop-line-test.true c.line-item.is
    (λ (rest : List (Bor CodeLine)). ap (λ (n : ℕ). follow (local_declares c.args.procedure c.loop-line.next (line_of c.line-item.result.now).place (line_of c.line-item.result.now).form) (locals_declare c.args.procedure n (map (λ x. line_of x.now) rest))) (sym c.in_ok-next.ensures))
    (c.in_ok-put_local.ensures
    ∙ ap (λ f. with_declared (local_declares c.args.procedure c.loop-line.next c.line-item.result.now.place (form_of f)) (names_of c.loop-line.to)) c.deref.ensures)
    ∙ c.loop-line.invariant

pub returns : goal.returns
returns c =
    sym (loop_done (λ (xs : List (Bor CodeLine)). locals_declare c.args.procedure c.loop-line.next (map (λ x. line_of x.now) xs))
    c.args.lines.now c.loop-line.line-index (names_of c.loop-line.to) c.loop-line-test.false refl)
    ∙ c.loop-line.invariant
