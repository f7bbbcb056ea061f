use Rattle.std.proofs.Common.{◌++◌, List, map, sym, ap, ◌∙◌, append_assoc}
use Rattle.bound_tree.specs.Tree.{Expr}
use Rattle.bound_tree.specs.View.{expr_of, exprs_of, object_of, passed_of, shown, term_of}
use Rattle.bound_tree.proofs.Views.{lib_shown, element_shown, call_shown}
use Rattle.bound_facts.specs.Nodes.{nodes, nodes_in, nodes_of_all, nodes_of_passed, nodes_of_object}
use Rattle.bound_facts.proofs.nodes.+nodes.Goals as goal

pub push_parts-returns-in_ok-push_all-in-Lib : goal.push_parts-returns-in_ok-push_all-in-Lib
push_parts-returns-in_ok-push_all-in-Lib t c =
    let old = map shown c.args.to.now.items in
    c.in_ok-push_all-in-Lib.ensures
    ∙ ap (λ xs. old ++ nodes_of_all (exprs_of xs)) c.deref-in-Lib.ensures.value
    ∙ ap (λ n. old ++ nodes_in n) (sym (ap term_of c.in-Lib.is ∙ lib_shown _ c.in-Lib.args))

pub push_parts-returns-in_ok-push_all-in-Element : goal.push_parts-returns-in_ok-push_all-in-Element
push_parts-returns-in_ok-push_all-in-Element t c =
    let old = map shown c.args.to.now.items in
    let first = nodes (expr_of c.in-Element.of.value) in
    c.in_ok-push_all-in-Element.ensures
    ∙ ap (λ (xs : List Expr). xs ++ nodes_of_all (exprs_of c.deref-in-Element-2.result.now)) (c.in_ok-push_nodes-in-Element.ensures ∙ ap (λ e. old ++ nodes (expr_of e)) c.deref-in-Element.ensures)
    ∙ append_assoc old first _
    ∙ ap (λ xs. old ++ (first ++ nodes_of_all (exprs_of xs))) c.deref-in-Element-2.ensures.value
    ∙ ap (λ n. old ++ nodes_in n) (sym (ap term_of c.in-Element.is ∙ element_shown c.in-Element.of c.in-Element.indexes))

pub push_parts-returns-in_ok-push_passed-in-Call : goal.push_parts-returns-in_ok-push_passed-in-Call
push_parts-returns-in_ok-push_passed-in-Call t c =
    let old = map shown c.args.to.now.items in
    let first = nodes_of_object (object_of c.in-Call.of) in
    c.in_ok-push_passed-in-Call.ensures
    ∙ ap (λ (xs : List Expr). xs ++ nodes_of_passed (passed_of c.deref-in-Call.result.now)) c.in_ok-push_object-in-Call.ensures
    ∙ append_assoc old first _
    ∙ ap (λ xs. old ++ (first ++ nodes_of_passed (passed_of xs))) c.deref-in-Call.ensures.value
    ∙ ap (λ n. old ++ nodes_in n) (sym (ap term_of c.in-Call.is ∙ call_shown c.in-Call.field-0 c.in-Call.field-1 c.in-Call.of c.in-Call.args))
