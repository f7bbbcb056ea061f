use Rattle.std.proofs.Common.{◌∙◌, ap, map, refl, sym, List}
use Rattle.vb_tree.specs.declared.form_parts.Declarator6.{Declarator6}
use Rattle.vb_tree.specs.View.{declarator_of}
use Rattle.declared_names.specs.Declaring.{a_variable, variable_in, variables_in, with_declared}
use Rattle.declared_names.specs.View.{names_of}
use Rattle.declared_names.proofs.Loops.{loop_done, loop_more}
use Rattle.declared_names.proofs.variables.put_variables.Goals as goal

pub loop-declarator-preserved : goal.loop-declarator-preserved
loop-declarator-preserved c =
    let made = ap (λ v. with_declared (a_variable c.args.scope v) (names_of c.loop-declarator.to)) c.declared_variable-variable.ensures in
    loop_more (λ (xs : List Declarator6). variables_in c.args.scope c.args.owner c.args.place c.args.statement (map declarator_of xs))
    (λ (xs : List Declarator6). variables_in c.args.scope c.args.owner c.args.place c.args.statement (map declarator_of xs))
    (a_variable c.args.scope (variable_in c.args.owner c.args.place c.args.statement (declarator_of c.declarator-item.result)))
    c.args.declarators.now c.loop-declarator.declarator-index c.declarator-item.result _ _ c.loop-declarator-test.true c.declarator-item.is (λ rest. refl) (c.in_ok-put_variable.ensures ∙ made)
    ∙ c.loop-declarator.invariant

pub returns : goal.returns
returns c =
    sym (loop_done (λ (xs : List Declarator6). variables_in c.args.scope c.args.owner c.args.place c.args.statement (map declarator_of xs))
    c.args.declarators.now c.loop-declarator.declarator-index (names_of c.loop-declarator.to) c.loop-declarator-test.false refl)
    ∙ c.loop-declarator.invariant
