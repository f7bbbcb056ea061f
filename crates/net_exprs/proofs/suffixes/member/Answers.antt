use Rattle.std.proofs.Common.{refl, ap, sym, ◌<◌, ◌∙◌, Some}
use Rattle.std.proofs.lemmas.Result.{err_from_is_err_and}
use Rattle.net_tree.specs.Tree.{dot}
use Rattle.net_tree.specs.Depth.{depth_exp}
use Rattle.net_exprs.specs.declared.stages.Stage as code_stage
use Rattle.net_exprs.specs.Names.{name_at}
use Rattle.net_exprs.specs.Readers.{behind}
use Rattle.net_exprs.specs.Expressions.{value_of, whole}
use Rattle.net_exprs.specs.Fitting.{fits_name}
use Rattle.net_exprs.specs.Stages.{fits_stage, fits_stage_in, member_step, stage_view}
use Rattle.net_exprs.proofs.Answering.{fails_over, fails_up}
use Rattle.net_exprs.proofs.Steps.{member_misfits, member_too_deep, value_fits}
use Rattle.net_exprs.proofs.suffixes.member.Goals as goal

pub returns-in_err-name-clause-answers : goal.returns-in_err-name-clause-answers
returns-in_err-name-clause-answers c = λ h.
    let p = err_from_is_err_and c.from_residual.result c.from_residual.ensures.1 in
    let stage = stage_view c.args.stage in
    rw (p.1, p.2)
    (fails_up fits_name (fits_stage_in c.args.room) (name_at c.args.text.now) (member_step stage c.args.text.now) c.in_err-name.field-0.0 (member_misfits c.args.room stage c.args.text.now)
    c.in_err-name.ensures.answers)

pub returns-in-Err-clause-answers : goal.returns-in-Err-clause-answers
returns-in-Err-clause-answers c = λ h.
    let stage = stage_view c.args.stage in
    fails_over code_stage.Stage (fits_stage_in c.args.room) (member_step stage c.args.text.now) c.in-Err.e (c.args.room < depth_exp (value_of stage)) (c.in-Err.ensures.misfits h)
    (member_too_deep c.args.room stage c.args.text.now)

pub returns-in-Ok-clause-answers : goal.returns-in-Ok-clause-answers
returns-in-Ok-clause-answers c = λ h.
    ap (λ o. behind o (λ name rest. Some (whole (dot (value_of (stage_view c.args.stage)) name), rest))) c.in_ok-name.ensures.answers
    ∙ ap (λ s. Some (s, c.in_ok-name.rest.now)) (sym c.in-Ok.ensures.stage)

pub returns-in-Ok-clause-held : goal.returns-in-Ok-clause-held
returns-in-Ok-clause-held c = λ h. ap fits_stage c.in-Ok.ensures.stage ∙ rw (value_fits (stage_view c.args.stage) ∙ h, c.in_ok-name.ensures.held) refl

pub returns-in-Ok-clause-left : goal.returns-in-Ok-clause-left
returns-in-Ok-clause-left c = λ h. c.in-Ok.ensures.left h
