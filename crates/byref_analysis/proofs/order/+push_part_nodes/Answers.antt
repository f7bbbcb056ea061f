use Rattle.std.proofs.Common.{◌++◌, List, [], cond, map, sym, ap, ◌∙◌, append_assoc}
use Rattle.bound_tree.specs.Tree.{Expr}
use Rattle.bound_tree.specs.View.{declarations_of, expr_of, exprs_of, shown, term_of}
use Rattle.bound_tree.proofs.Views.{element_shown}
use Rattle.bound_facts.specs.Nodes.{nodes, nodes_of_all}
use Rattle.byref_analysis.specs.Order.{part_nodes_in, stays}
use Rattle.byref_analysis.proofs.order.+push_part_nodes.Goals as goal

pub returns-in_ok-push_indexes-in-Element : goal.returns-in_ok-push_indexes-in-Element
returns-in_ok-push_indexes-in-Element t c =
    let old = map shown c.args.to.now.items in
    let D = declarations_of c.args.declared.now in
    let first = cond (stays D (expr_of c.in-Element.of.value)) [] (nodes (expr_of c.in-Element.of.value)) in
    c.in_ok-push_indexes-in-Element.ensures
    ∙ ap (λ (xs : List Expr). xs ++ nodes_of_all (exprs_of c.deref-in-Element-2.result.now)) (c.in_ok-push_array-in-Element.ensures ∙ ap (λ e. old ++ cond (stays D (expr_of e)) [] (nodes (expr_of e))) c.deref-in-Element.ensures)
    ∙ append_assoc old first _
    ∙ ap (λ xs. old ++ (first ++ nodes_of_all (exprs_of xs))) c.deref-in-Element-2.ensures.value
    ∙ ap (λ n. old ++ part_nodes_in D n) (sym (ap term_of c.in-Element.is ∙ element_shown c.in-Element.of c.in-Element.indexes))
