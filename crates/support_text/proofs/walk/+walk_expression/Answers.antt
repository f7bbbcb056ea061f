use Rattle.std.proofs.Common.{ap, sym, ◌∙◌}
use Rattle.std.specs.List.{fold}
use Rattle.std.proofs.lemmas.List.{take_all}
use Rattle.net_tree.specs.View.{exps_of}
use Rattle.support_text.specs.Noting.{noted}
use Rattle.support_text.specs.Walk.{walk_exps}
use Rattle.support_text.proofs.Listed.{walked, list_walked, call_walked, object_walked, array_walked}
use Rattle.support_text.proofs.walk.+walk_expression.Goals as goal

pub walk_expression-returns-in-Call : goal.walk_expression-returns-in-Call
walk_expression-returns-in-Call t c =
    c.walk_list.ensures
    ∙ ap (λ used. walk_exps noted used (exps_of c.deref-in-Call-2.result.now)) c.walk_expression-used.ensures
    ∙ ap (λ xs. walk_exps noted (walked c.args.used c.deref-in-Call.result.now) (exps_of xs)) c.deref-in-Call-2.ensures.value
    ∙ ap (λ a. walk_exps noted (walked c.args.used a) (exps_of c.in-Call.arguments.items)) c.deref-in-Call.ensures
    ∙ call_walked c.args.used c.in-Call.callee c.in-Call.arguments
    ∙ ap (walked c.args.used) (sym c.in-Call.is)

pub walk_expression-returns-in-NewObject : goal.walk_expression-returns-in-NewObject
walk_expression-returns-in-NewObject t c =
    c.walk_list-in-NewObject.ensures
    ∙ ap (λ xs. walk_exps noted c.args.used (exps_of xs)) c.deref-in-NewObject.ensures.value
    ∙ object_walked c.args.used c.in-NewObject.field-0 c.in-NewObject.arguments
    ∙ ap (walked c.args.used) (sym c.in-NewObject.is)

pub walk_expression-returns-in-NewArray : goal.walk_expression-returns-in-NewArray
walk_expression-returns-in-NewArray t c =
    c.walk_list-in-NewArray.ensures
    ∙ ap (λ xs. walk_exps noted c.args.used (exps_of xs)) c.deref-in-NewArray.ensures.value
    ∙ array_walked c.args.used c.in-NewArray.field-0 c.in-NewArray.bounds
    ∙ ap (walked c.args.used) (sym c.in-NewArray.is)

pub walk_list-returns : goal.walk_list-returns
walk_list-returns t c =
    c.loop-e.invariant
    ∙ ap (fold walked c.args.used) (take_all c.loop-e.e-index c.args.list.now c.loop-e-test.false)
    ∙ list_walked c.args.used c.args.list.now
