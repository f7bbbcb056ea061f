use Rattle.std.proofs.Common.{refl, ap, arith, option_map}
use Rattle.vb_tree.specs.View.{exp_of, type_name_of}
use Rattle.vb_tree.specs.Expressions.{IsExpression, depth_of}
use Rattle.form_parts.specs.Parts.{IsTypeName, type_depth}
use Rattle.form_parts.proofs.Answering.{both_failed, both_gave}
use Rattle.declaration_forms.specs.Now.{tokens_now, outlined_now}
use Rattle.declaration_forms.specs.Wholes.{IsOptional, optional_depth}
use Rattle.declaration_forms.proofs.Declaring.{constant_fails}
use Rattle.declaration_forms.proofs.variables.constant.Goals as goal

pub returns-in-Ok : goal.returns-in-Ok
returns-in-Ok c =
    let gave = both_gave (option_map type_name_of) exp_of (IsOptional IsTypeName (tokens_now c.args.outline.ty)) (IsExpression c.args.value.now) (optional_depth type_depth) depth_of c.optional_type-ty.result c.expression.result c.both.result (c.in-Ok.ty, c.in-Ok.value) c.optional_type-ty.ensures c.expression.ensures c.both.ensures c.in-Ok.is in
    (record { name = c.in_ok-name.ensures; suffix = refl; alone = ap tokens_now c.in-None.is; ty = gave.0.0; value = gave.0.1 }, omega (arith, gave.1))

pub returns-in-Err : goal.returns-in-Err
returns-in-Err c =
    constant_fails (outlined_now c.args.outline) c.args.value.now (ap tokens_now c.in-None.is) c.in-Err.e
    (both_failed (option_map type_name_of) exp_of (IsOptional IsTypeName (tokens_now c.args.outline.ty)) (IsExpression c.args.value.now) (optional_depth type_depth) depth_of c.optional_type-ty.result c.expression.result c.both.result c.in-Err.e c.optional_type-ty.ensures c.expression.ensures c.both.ensures c.in-Err.is)
