use Rattle.std.proofs.Common.{ap, arith, length, refl, subst, sym, ◌-◌, ◌<◌, ◌∙◌, Some, suc}
use Rattle.std.proofs.lemmas.Result.{err_from_is_err_and}
use Rattle.net_tree.specs.Depth.{depth_exp}
use Rattle.net_tree.specs.View.{exp_of, exps_of}
use Rattle.net_exprs.specs.declared.openings.Nest.TheVariants as nest
use Rattle.net_exprs.specs.declared.stages.ReadExpr.{ReadExpr}
use Rattle.net_exprs.specs.declared.stages.Stage as code_stage
use Rattle.net_exprs.specs.Readers.{behind}
use Rattle.net_exprs.specs.Expressions.{array_made, exp_nested, group_at, head_at, items_from, nest_behind, opening_at, value_of, with_group}
use Rattle.net_exprs.specs.Fitting.{fit_in, fits_exp, fits_in}
use Rattle.net_exprs.specs.Openings.{fits_opening, opening_view}
use Rattle.net_exprs.specs.Stages.{array_stage, fits_group_in, fits_stage, fits_stage_in, group_step, group_view, read_view, stage_depth, stage_view, suffix_step}
use Rattle.net_exprs.proofs.Answering.{fails_over, fails_up}
use Rattle.net_exprs.proofs.Items.{ItemsLeft, items_fit, items_go_on, items_leave, items_misfit, items_stop, pushed}
use Rattle.net_exprs.proofs.Nesting.{leaf_leaves, nest_answers, nested_misfits, opening_misfits}
use Rattle.net_exprs.proofs.Rooms.{answers_room}
use Rattle.net_exprs.proofs.Steps.{end_misfits, group_fits, group_misfits, group_too_deep, head_misfits, is_braces, is_group, is_member, suffixes_begin, suffixes_go_on, suffixes_misfits, suffixes_stop, value_fits}
use Rattle.net_exprs.proofs.expressions.+read.Goals as goal

-- ---- parentheses behind an expression

pub called-returns-in_err-group-clause-answers : goal.called-returns-in_err-group-clause-answers
called-returns-in_err-group-clause-answers t c = λ h.
    let p = err_from_is_err_and c.from_residual.result c.from_residual.ensures.1 in
    let room = c.args.room in
    let g = group_at (exp_nested room) in
    rw (p.1, p.2)
    (fails_up (fits_group_in room) (fits_stage_in room) (g c.args.text.now) (group_step g (stage_view c.args.stage) c.args.text.now) c.in_err-group.field-0.0
    (group_misfits room g (stage_view c.args.stage) c.args.text.now) c.in_err-group.ensures.answers)

pub called-returns-in-Err-clause-answers : goal.called-returns-in-Err-clause-answers
called-returns-in-Err-clause-answers t c = λ h.
    let room = c.args.room in
    let g = group_at (exp_nested room) in
    let stage = stage_view c.args.stage in
    let group = group_view c.in_ok-group.group in
    fails_over code_stage.Stage (fits_stage_in room) (group_step g stage c.args.text.now) c.in-Err.e (suc room < stage_depth (with_group stage group)) (c.in-Err.ensures.misfits h)
    (group_too_deep room g stage c.args.text.now group c.in_ok-group.rest.now c.in_ok-group.ensures.answers)

pub called-returns-in-Ok-clause-answers : goal.called-returns-in-Ok-clause-answers
called-returns-in-Ok-clause-answers t c = λ h.
    ap (λ o. behind o (λ x rest. Some (with_group (stage_view c.args.stage) x, rest))) c.in_ok-group.ensures.answers
    ∙ ap (λ s. Some (s, c.in_ok-group.rest.now)) (sym c.in-Ok.ensures.stage)

pub called-returns-in-Ok-clause-held : goal.called-returns-in-Ok-clause-held
called-returns-in-Ok-clause-held t c = λ h.
    ap fits_stage c.in-Ok.ensures.stage ∙ group_fits (stage_view c.args.stage) (group_view c.in_ok-group.group) ∙ rw (h, c.in_ok-group.ensures.held) refl

pub called-returns-in-Ok-clause-left : goal.called-returns-in-Ok-clause-left
called-returns-in-Ok-clause-left t c = λ h. c.in-Ok.ensures.left h c.in_ok-group.ensures.left

-- ---- an expression

pub expression-returns-in_err-stage-clause-answers :
    goal.expression-returns-in_err-stage-clause-answers
expression-returns-in_err-stage-clause-answers t c =
    let p = err_from_is_err_and c.from_residual.result c.from_residual.ensures.1 in
    let room = c.args.room in
    rw (p.1, p.2)
    (fails_up (fits_stage_in (room - 1)) (fits_in room) (head_at (exp_nested (room - 1)) c.args.text.now) (exp_nested room c.args.text.now) c.in_err-stage.field-0.0
    (head_misfits room c.args.text.now (omega (arith, c.if-room-eq0.false))) c.in_err-stage.ensures.answers)

pub expression-suffixes-init : goal.expression-suffixes-init
expression-suffixes-init t c = record {
  left = suffixes_begin c.args.room c.args.text.now (stage_view c.in_ok-stage.stage) c.in_ok-stage.rest.now (omega (arith, c.if-room-eq0.false)) c.in_ok-stage.ensures.answers c.in_ok-stage.ensures.shorter;
  shorter = c.in_ok-stage.ensures.shorter;
  held = c.in_ok-stage.ensures.held;
  leaves = c.in_ok-stage.ensures.left;
}

pub expression-returns-in_err-longer-clause-answers :
    goal.expression-returns-in_err-longer-clause-answers
expression-returns-in_err-longer-clause-answers t c =
    let p = err_from_is_err_and c.from_residual-in_err-longer.result c.from_residual-in_err-longer.ensures.1 in
    let room = c.args.room in
    let g = group_at (exp_nested (room - 1)) in
    let stage = stage_view c.suffixes.stage in
    rw (p.1, p.2)
    (fails_up (fits_stage_in (room - 1)) (fits_in room) (suffix_step g stage c.suffixes.rest.now) (exp_nested room c.args.text.now) c.in_err-longer.field-0.0
    (suffixes_misfits room g (exp_nested room c.args.text.now) stage c.suffixes.rest.now (omega (arith, c.if-room-eq0.false)) c.suffixes.invariant.left (sym c.goes_on.ensures ∙ c.suffixes-test.true))
    (c.in_err-longer.ensures.answers c.suffixes.invariant.leaves))

pub expression-suffixes-preserved : goal.expression-suffixes-preserved
expression-suffixes-preserved t c = record {
  left = suffixes_go_on (group_at (exp_nested (c.args.room - 1))) (exp_nested c.args.room c.args.text.now) (stage_view c.suffixes.stage) c.suffixes.rest.now (stage_view c.in_ok-longer.longer) c.in_ok-longer.beyond.now
      c.suffixes.invariant.left (sym c.goes_on.ensures ∙ c.suffixes-test.true) (c.in_ok-longer.ensures.answers c.suffixes.invariant.leaves) c.in_ok-longer.ensures.shorter;
  shorter = omega (arith, c.in_ok-longer.ensures.shorter, c.suffixes.invariant.shorter);
  held = c.in_ok-longer.ensures.held c.suffixes.invariant.held;
  leaves = c.in_ok-longer.ensures.left c.suffixes.invariant.leaves;
}

pub expression-returns-in-Ok-clause-answers : goal.expression-returns-in-Ok-clause-answers
expression-returns-in-Ok-clause-answers t c =
    suffixes_stop (group_at (exp_nested (c.args.room - 1))) (exp_nested c.args.room c.args.text.now) (stage_view c.suffixes.stage) c.suffixes.rest.now c.suffixes.invariant.left
    (sym c.goes_on.ensures ∙ c.suffixes-test.false)
    ∙ ap (λ e. Some (e, c.suffixes.rest.now)) (sym c.in-Ok.ensures.value)

pub expression-returns-in-Ok-clause-held : goal.expression-returns-in-Ok-clause-held
expression-returns-in-Ok-clause-held t c = ap fits_exp c.in-Ok.ensures.value ∙ value_fits (stage_view c.suffixes.stage) ∙ c.suffixes.invariant.held

pub expression-returns-in-Ok-clause-left : goal.expression-returns-in-Ok-clause-left
expression-returns-in-Ok-clause-left t c = omega (arith, c.in-Ok.ensures.left c.suffixes.invariant.leaves, c.if-room-eq0.false)

pub expression-returns-in-Err-clause-answers : goal.expression-returns-in-Err-clause-answers
expression-returns-in-Err-clause-answers t c =
    let room = c.args.room in
    let stage = stage_view c.suffixes.stage in
    let stops = suffixes_stop (group_at (exp_nested (room - 1))) (exp_nested room c.args.text.now) stage c.suffixes.rest.now c.suffixes.invariant.left (sym c.goes_on.ensures ∙ c.suffixes-test.false) in
    fails_over ReadExpr (fits_in room) (exp_nested room c.args.text.now) c.in-Err.e (suc (room - 1) < depth_exp (value_of stage)) (c.in-Err.ensures.misfits c.suffixes.invariant.leaves)
    (end_misfits room (exp_nested room c.args.text.now) stage c.suffixes.rest.now (omega (arith, c.if-room-eq0.false)) stops)

-- ---- what an expression begins with

pub head-returns-in_err-opening-clause-answers : goal.head-returns-in_err-opening-clause-answers
head-returns-in_err-opening-clause-answers t c =
    let p = err_from_is_err_and c.from_residual.result c.from_residual.ensures.1 in
    let room = c.args.room in
    rw (p.1, p.2)
    (fails_up fits_opening (fits_stage_in room) (opening_at c.args.text.now) (head_at (exp_nested room) c.args.text.now) c.in_err-opening.field-0.0
    (opening_misfits room c.args.text.now) c.in_err-opening.ensures.answers)

pub head-returns-in-Leaf-clause-left : goal.head-returns-in-Leaf-clause-left
head-returns-in-Leaf-clause-left t c =
    leaf_leaves c.args.room c.args.text.now (exp_of c.in-Leaf.expr) c.in_ok-opening.rest.now (c.in_ok-opening.ensures.answers ∙ ap (λ x. Some (opening_view x, c.in_ok-opening.rest.now)) c.in-Leaf.is)

pub nested-returns-in_err-operand-clause-answers : goal.nested-returns-in_err-operand-clause-answers
nested-returns-in_err-operand-clause-answers t c =
    let p = err_from_is_err_and c.from_residual.result c.from_residual.ensures.1 in
    let room = c.args.room in
    rw (p.1, p.2)
    (fails_up (fits_in room) (fits_stage_in room) (exp_nested room c.args.text.now) (behind (exp_nested room c.args.text.now) (nest_behind (exp_nested room) c.args.nest)) c.in_err-operand.field-0.0
    (nested_misfits room c.args.nest c.args.text.now) c.in_err-operand.ensures.answers)

pub nested-returns-in-Cast-clause-answers : goal.nested-returns-in-Cast-clause-answers
nested-returns-in-Cast-clause-answers t c =
    nest_answers stage_view c.args.room c.args.nest (nest.Cast c.in-Cast.word) c.args.text.now (read_view c.in_ok-operand.operand) c.in_ok-operand.rest.now c.cast.result c.in-Cast.is c.in_ok-operand.ensures.answers c.cast.ensures.answers

pub nested-returns-in-Cast-clause-left : goal.nested-returns-in-Cast-clause-left
nested-returns-in-Cast-clause-left t c = c.cast.ensures.left c.args.room c.in_ok-operand.ensures.left

pub nested-returns-in-Convert-clause-answers : goal.nested-returns-in-Convert-clause-answers
nested-returns-in-Convert-clause-answers t c =
    nest_answers stage_view c.args.room c.args.nest nest.Convert c.args.text.now (read_view c.in_ok-operand.operand) c.in_ok-operand.rest.now c.conversion.result c.in-Convert.is c.in_ok-operand.ensures.answers c.conversion.ensures.answers

pub nested-returns-in-Convert-clause-left : goal.nested-returns-in-Convert-clause-left
nested-returns-in-Convert-clause-left t c = c.conversion.ensures.left c.args.room c.in_ok-operand.ensures.left

pub nested-returns-in-Unary-clause-answers : goal.nested-returns-in-Unary-clause-answers
nested-returns-in-Unary-clause-answers t c =
    nest_answers stage_view c.args.room c.args.nest (nest.Unary c.in-Unary.op) c.args.text.now (read_view c.in_ok-operand.operand) c.in_ok-operand.rest.now c.unary.result c.in-Unary.is c.in_ok-operand.ensures.answers c.unary.ensures.answers

pub nested-returns-in-Unary-clause-left : goal.nested-returns-in-Unary-clause-left
nested-returns-in-Unary-clause-left t c = c.unary.ensures.left c.args.room c.in_ok-operand.ensures.left

pub nested-returns-in-TypeTest-clause-answers : goal.nested-returns-in-TypeTest-clause-answers
nested-returns-in-TypeTest-clause-answers t c =
    nest_answers stage_view c.args.room c.args.nest nest.TypeTest c.args.text.now (read_view c.in_ok-operand.operand) c.in_ok-operand.rest.now c.type_test.result c.in-TypeTest.is c.in_ok-operand.ensures.answers c.type_test.ensures.answers

pub nested-returns-in-TypeTest-clause-left : goal.nested-returns-in-TypeTest-clause-left
nested-returns-in-TypeTest-clause-left t c = c.type_test.ensures.left c.args.room c.in_ok-operand.ensures.left

-- ---- expressions in parentheses

pub items-returns-in_err-item-clause-answers : goal.items-returns-in_err-item-clause-answers
items-returns-in_err-item-clause-answers t c =
    let p = err_from_is_err_and c.from_residual.result c.from_residual.ensures.1 in
    let room = c.args.room in
    let read = exp_nested room in
    rw (p.1, p.2)
    (fails_up (fits_in room) (fit_in room) (read c.items.rest.now) (items_from read (length c.args.text.now) c.args.text.now) c.in_err-item.field-0.0
    (items_misfit room read c.args.text.now (exps_of c.items.items.items) c.items.rest.now c.items.invariant.left) c.in_err-item.ensures.answers)

pub items-returns-in-Some-clause-held : goal.items-returns-in-Some-clause-held
items-returns-in-Some-clause-held t c =
    let more = ap exps_of c.in_ok-push.ensures.items ∙ pushed c.items.items.items c.in_ok-item.item.expr in
    rw more (items_fit (exps_of c.items.items.items) (read_view c.in_ok-item.item) c.items.invariant.held c.in_ok-item.ensures.held)

pub items-returns-in-Some-clause-left : goal.items-returns-in-Some-clause-left
items-returns-in-Some-clause-left t c =
    let more = ap exps_of c.in_ok-push.ensures.items ∙ pushed c.items.items.items c.in_ok-item.item.expr in
    rw more (omega (arith, c.min-left.ensures, items_leave c.args.room (exps_of c.items.items.items) (read_view c.in_ok-item.item) c.items.left c.in_ok-item.item.room c.items.invariant.leaves c.in_ok-item.ensures.left))

pub items-returns-in-Some-clause-answers : goal.items-returns-in-Some-clause-answers
items-returns-in-Some-clause-answers t c =
    let more = ap exps_of c.in_ok-push.ensures.items ∙ pushed c.items.items.items c.in_ok-item.item.expr in
    items_stop (exp_nested c.args.room) c.args.text.now (exps_of c.items.items.items) c.items.rest.now (read_view c.in_ok-item.item) c.in_ok-item.beyond.now c.in-Some.end.now c.items.invariant.left
    c.in_ok-item.ensures.answers c.in_ok-item.ensures.shorter (sym c.in-Some.ensures.rest)
    ∙ ap (λ es. Some (es, c.in-Some.end.now)) (sym more)

pub items-items-preserved : goal.items-items-preserved
items-items-preserved t c =
    let more = ap exps_of c.in_ok-push.ensures.items ∙ pushed c.items.items.items c.in_ok-item.item.expr in
    record {
      left = subst (λ es. ItemsLeft (exp_nested c.args.room) c.args.text.now es c.in-Some-after.more.now) (sym more)
          (items_go_on (exp_nested c.args.room) c.args.text.now (exps_of c.items.items.items) c.items.rest.now (read_view c.in_ok-item.item) c.in_ok-item.beyond.now c.in-Some-after.more.now c.items.invariant.left
          c.in_ok-item.ensures.answers c.in_ok-item.ensures.shorter (sym c.in_default.ensures.rest) (sym c.in-Some-after.ensures.rest) c.in-Some-after.ensures.shorter);
      shorter = omega (arith, c.in-Some-after.ensures.shorter, c.in_ok-item.ensures.shorter, c.items.invariant.shorter);
      held = rw more (items_fit (exps_of c.items.items.items) (read_view c.in_ok-item.item) c.items.invariant.held c.in_ok-item.ensures.held);
      leaves = rw more (omega (arith, c.min-left.ensures, items_leave c.args.room (exps_of c.items.items.items) (read_view c.in_ok-item.item) c.items.left c.in_ok-item.item.room c.items.invariant.leaves c.in_ok-item.ensures.left));
    }

-- ---- one suffix

pub suffix-returns-in-Some-clause-answers : goal.suffix-returns-in-Some-clause-answers
suffix-returns-in-Some-clause-answers t c = λ h. rw (is_member c.args.text.now c.in-Some.rest.now (sym c.in-Some.ensures.rest)) (c.member.ensures.answers h)

pub suffix-returns-in-Some-after-clause-answers : goal.suffix-returns-in-Some-after-clause-answers
suffix-returns-in-Some-after-clause-answers t c = λ h.
    rw (is_group c.args.text.now c.in-Some-after.rest.now (sym c.in_default.ensures.rest) (sym c.in-Some-after.ensures.rest)) (c.called.ensures.answers h)

pub suffix-returns-in-Some-after-2-clause-answers : goal.suffix-returns-in-Some-after-2-clause-answers
suffix-returns-in-Some-after-2-clause-answers t c = λ h.
    let room = c.args.room in
    let stage = stage_view c.args.stage in
    rw (is_braces c.args.text.now _ (sym c.in_default.ensures.rest) (sym c.in_default-after.ensures.rest) (sym c.in-Some-after-2.ensures.rest))
    (answers_room stage_view fits_stage stage_depth (suc room) (array_stage c.in-Some-after-2.rest.now (array_made stage)) c.array_stage.result c.array_stage.ensures.answers)

pub suffix-returns-in-None-clause-answers : goal.suffix-returns-in-None-clause-answers
suffix-returns-in-None-clause-answers t c = λ h.
    rw (is_braces c.args.text.now _ (sym c.in_default.ensures.rest) (sym c.in_default-after.ensures.rest) (sym c.in-None.ensures.rest)) tt
