use Rattle.std.proofs.Common.{◌∙◌, ap, map, refl, sym, List}
use Rattle.vb_tree.specs.declared.form_parts.Constant6.{Constant6}
use Rattle.vb_tree.specs.View.{constant_of}
use Rattle.declared_names.specs.Declaring.{a_constant, constant_in, constants_in, with_declared}
use Rattle.declared_names.specs.View.{names_of}
use Rattle.declared_names.proofs.Loops.{loop_done, loop_more}
use Rattle.declared_names.proofs.variables.put_constants.Goals as goal

pub loop-constant-preserved : goal.loop-constant-preserved
loop-constant-preserved c =
    let made = ap (λ v. with_declared (a_constant c.args.scope v) (names_of c.loop-constant.to)) c.declared_constant-constant.ensures in
    loop_more (λ (xs : List Constant6). constants_in c.args.scope c.args.owner c.args.place c.args.statement (map constant_of xs))
    (λ (xs : List Constant6). constants_in c.args.scope c.args.owner c.args.place c.args.statement (map constant_of xs))
    (a_constant c.args.scope (constant_in c.args.owner c.args.place c.args.statement (constant_of c.constant-item.result)))
    c.args.constants.now c.loop-constant.constant-index c.constant-item.result _ _ c.loop-constant-test.true c.constant-item.is (λ rest. refl) (c.in_ok-put_constant.ensures ∙ made)
    ∙ c.loop-constant.invariant

pub returns : goal.returns
returns c =
    sym (loop_done (λ (xs : List Constant6). constants_in c.args.scope c.args.owner c.args.place c.args.statement (map constant_of xs))
    c.args.constants.now c.loop-constant.constant-index (names_of c.loop-constant.to) c.loop-constant-test.false refl)
    ∙ c.loop-constant.invariant
