use Rattle.std.proofs.Common.{◌∙◌, refl, sym, arith, option_map}
use Rattle.vb_tree.specs.View.{exp_of, type_name_of}
use Rattle.vb_tree.specs.Expressions.{IsExpression, depth_of}
use Rattle.form_parts.specs.Parts.{IsTypeName, type_depth}
use Rattle.form_parts.proofs.Answering.{both_failed, both_gave}
use Rattle.declaration_forms.specs.Now.{tokens_now, outlined_now}
use Rattle.declaration_forms.specs.Wholes.{IsOptional, optional_depth}
use Rattle.declaration_forms.proofs.Declaring.{param_fails, some_now}
use Rattle.declaration_forms.proofs.heads.param_in.Goals as goal

pub returns-in-Ok : goal.returns-in-Ok
returns-in-Ok c =
    let gave = both_gave (option_map type_name_of) (option_map exp_of) (IsOptional IsTypeName (tokens_now c.args.outline.ty)) (IsOptional IsExpression (tokens_now c.args.value)) (optional_depth type_depth) (optional_depth depth_of) c.optional_type-ty.result c.optional_expression.result c.both.result (c.in-Ok.ty, c.in-Ok.preset) c.optional_type-ty.ensures c.optional_expression.ensures c.both.ensures c.in-Ok.is in (
      record {
        optional = refl;
        passing = refl;
        param_array = refl;
        name = c.in_ok-name.ensures;
        suffix = refl;
        empty = sym c.is_empty_pair.ensures ∙ c.if-not-is_empty_pair.false;
        array = c.is_some.ensures ∙ some_now c.args.outline.inside;
        ty = gave.0.0;
        preset = gave.0.1;
      },
      omega (arith, gave.1),
    )

pub returns-in-Err : goal.returns-in-Err
returns-in-Err c =
    param_fails (outlined_now c.args.outline) c.args.words (tokens_now c.args.value) (sym c.is_empty_pair.ensures ∙ c.if-not-is_empty_pair.false) c.in-Err.e
    (both_failed (option_map type_name_of) (option_map exp_of) (IsOptional IsTypeName (tokens_now c.args.outline.ty)) (IsOptional IsExpression (tokens_now c.args.value)) (optional_depth type_depth) (optional_depth depth_of) c.optional_type-ty.result c.optional_expression.result c.both.result c.in-Err.e c.optional_type-ty.ensures c.optional_expression.ensures c.both.ensures c.in-Err.is)
