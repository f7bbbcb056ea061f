use Rattle.std.proofs.Common.{◌∙◌, ap, map, refl, sym, List, ◌+◌, nat_eq}
use Rattle.vb_tree.specs.declared.form_parts.Param6.{Param6}
use Rattle.vb_tree.specs.View.{param_of}
use Rattle.bound_tree.specs.declared.declared.Scope.TheVariants as scope
use Rattle.declared_names.specs.Declaring.{a_variable, param_owner, parameter_in, params_declare, with_declared}
use Rattle.declared_names.specs.View.{names_of}
use Rattle.declared_names.proofs.Loops.{loop_done, loop_more}
use Rattle.declared_names.proofs.procedures.put_params.Goals as goal

pub loop-i-preserved : goal.loop-i-preserved
loop-i-preserved c =
    loop_more (λ (xs : List Param6). params_declare c.args.procedure c.args.given c.args.place c.args.statement c.loop-i.i (map param_of xs))
    (λ (xs : List Param6). params_declare c.args.procedure c.args.given c.args.place c.args.statement (c.loop-i.i + 1) (map param_of xs))
    (a_variable (scope.Local c.args.procedure) (parameter_in (param_owner c.args.procedure (nat_eq (c.loop-i.i + 1) c.args.given) (param_of c.index-params-i.result)) c.args.place c.args.statement (param_of c.index-params-i.result)))
    c.args.params.now c.loop-i.i c.index-params-i.result _ _ c.loop-i-test.true c.index-params-i.is (λ rest. refl)
    (c.in_ok-put_variable.ensures
    ∙ ap (λ v. with_declared (a_variable (scope.Local c.args.procedure) v) (names_of c.loop-i.to))
    (c.parameter-variable.ensures ∙ ap (λ o. parameter_in o c.args.place c.args.statement (param_of c.index-params-i.result)) c.param_owner-owner.ensures))
    ∙ c.loop-i.invariant

pub returns : goal.returns
returns c =
    sym (loop_done (λ (xs : List Param6). params_declare c.args.procedure c.args.given c.args.place c.args.statement c.loop-i.i (map param_of xs))
    c.args.params.now c.loop-i.i (names_of c.loop-i.to) c.loop-i-test.false refl)
    ∙ c.loop-i.invariant
