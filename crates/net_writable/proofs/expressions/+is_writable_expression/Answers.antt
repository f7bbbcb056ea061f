use Rattle.std.proofs.Common.{ap, sym, ◌∙◌}
use Rattle.net_tree.specs.Expressions.{are_writable_bounds, are_writable_exps, is_writable_exp}
use Rattle.net_tree.specs.View.{exp_of, exps_of}
use Rattle.net_writable.proofs.Listed.{call_listed, object_listed, array_listed}
use Rattle.net_writable.proofs.expressions.+is_writable_expression.Goals as goal

pub is_writable_expression-returns-then-is_writable_expression-2 : goal.is_writable_expression-returns-then-is_writable_expression-2
is_writable_expression-returns-then-is_writable_expression-2 t c =
    c.are_writable_expressions.ensures
    ∙ ap (λ xs. are_writable_exps (exps_of xs)) c.deref-then-is_writable_expression-2.ensures.value
    ∙ call_listed c.in-Call.callee c.in-Call.arguments
    (ap (λ a. is_writable_exp (exp_of a)) (sym c.deref-in-Call.ensures) ∙ sym c.is_writable_expression-in-Call.ensures ∙ c.if-is_writable_expression-2.true)
    ∙ ap (λ a. is_writable_exp (exp_of a)) (sym c.in-Call.is)

pub is_writable_expression-returns-then-is_class_type : goal.is_writable_expression-returns-then-is_class_type
is_writable_expression-returns-then-is_class_type t c =
    c.are_writable_expressions-then-is_class_type.ensures
    ∙ ap (λ xs. are_writable_exps (exps_of xs)) c.deref-then-is_class_type.ensures.value
    ∙ object_listed c.in-NewObject.ty c.in-NewObject.arguments (sym c.is_class_type.ensures ∙ c.if-is_class_type.true)
    ∙ ap (λ a. is_writable_exp (exp_of a)) (sym c.in-NewObject.is)

pub is_writable_expression-returns-then-is_writable_type : goal.is_writable_expression-returns-then-is_writable_type
is_writable_expression-returns-then-is_writable_type t c =
    c.are_writable_bounds.ensures
    ∙ ap (λ xs. are_writable_bounds (exps_of xs)) c.deref-then-is_writable_type.ensures.value
    ∙ array_listed c.in-NewArray.ty c.in-NewArray.bounds (sym c.is_writable_type-in-NewArray.ensures ∙ c.if-is_writable_type.true)
    ∙ ap (λ a. is_writable_exp (exp_of a)) (sym c.in-NewArray.is)
