use Rattle.std.proofs.Common.{◌++◌, List, map, sym, ap, ◌∙◌, append_assoc}
use Rattle.net_tree.specs.View.{exp_of, exps_of}
use Rattle.written_trees.specs.Names.{Path}
use Rattle.support_modules.specs.Paths.{paths_of_exp, paths_of_exps, shown}
use Rattle.support_modules.proofs.Listed.{call_listed, object_listed, array_listed}
use Rattle.support_modules.proofs.paths.+paths.Goals as goal

pub push_expression-returns-in_ok-push_list-in-Call : goal.push_expression-returns-in_ok-push_list-in-Call
push_expression-returns-in_ok-push_list-in-Call t c =
    let old = map shown c.args.to.now.items in
    let first = paths_of_exp (exp_of c.in-Call.callee.value) in
    c.in_ok-push_list-in-Call.ensures
    ∙ ap (λ (xs : List Path). xs ++ paths_of_exps (exps_of c.deref-in-Call-2.result.now)) (c.in_ok-push_expression-in-Call.ensures ∙ ap (λ x. old ++ paths_of_exp (exp_of x)) c.deref-in-Call.ensures)
    ∙ append_assoc old first _
    ∙ ap (λ xs. old ++ (first ++ paths_of_exps (exps_of xs))) c.deref-in-Call-2.ensures.value
    ∙ ap (λ (xs : List Path). old ++ xs) (call_listed c.in-Call.callee c.in-Call.arguments)
    ∙ ap (λ x. old ++ paths_of_exp (exp_of x)) (sym c.in-Call.is)

pub push_expression-returns-in_ok-push_list-in-NewObject : goal.push_expression-returns-in_ok-push_list-in-NewObject
push_expression-returns-in_ok-push_list-in-NewObject t c =
    let old = map shown c.args.to.now.items in
    c.in_ok-push_list-in-NewObject.ensures
    ∙ ap (λ xs. old ++ paths_of_exps (exps_of xs)) c.deref-in-NewObject.ensures.value
    ∙ ap (λ (xs : List Path). old ++ xs) (object_listed c.in-NewObject.field-0 c.in-NewObject.arguments)
    ∙ ap (λ x. old ++ paths_of_exp (exp_of x)) (sym c.in-NewObject.is)

pub push_expression-returns-in_ok-push_list-in-NewArray : goal.push_expression-returns-in_ok-push_list-in-NewArray
push_expression-returns-in_ok-push_list-in-NewArray t c =
    let old = map shown c.args.to.now.items in
    c.in_ok-push_list-in-NewArray.ensures
    ∙ ap (λ xs. old ++ paths_of_exps (exps_of xs)) c.deref-in-NewArray.ensures.value
    ∙ ap (λ (xs : List Path). old ++ xs) (array_listed c.in-NewArray.field-0 c.in-NewArray.bounds)
    ∙ ap (λ x. old ++ paths_of_exp (exp_of x)) (sym c.in-NewArray.is)
