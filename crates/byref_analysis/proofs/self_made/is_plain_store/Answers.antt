use Rattle.std.proofs.Common.{sym, ap, ◌∙◌, map}
use Rattle.vb_tree.specs.View.{exp_of, form_of}
use Rattle.bound_tree.specs.View.{declarations_of, expr_of}
use Rattle.bound_facts.specs.SelfMade.{is_plain_store}
use Rattle.byref_analysis.proofs.self_made.is_plain_store.Goals as goal

pub returns-in_ok-is_plain_assignment-in-Assign : goal.returns-in_ok-is_plain_assignment-in-Assign
returns-in_ok-is_plain_assignment-in-Assign c =
    c.in_ok-is_plain_assignment-in-Assign.ensures (exp_of c.in-Assign.field-0.value) (exp_of c.in-Assign.field-1.value)
    ∙ ap (λ f. is_plain_store (declarations_of c.args.declared.now) c.args.i (form_of f) (map expr_of c.args.exprs.now)) (sym c.in-Assign.is)
