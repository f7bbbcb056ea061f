use Rattle.std.proofs.Common.{refl, subst, arith, map, option_map}
use Rattle.vb_tree.specs.View.{bounds_of, type_name_of}
use Rattle.form_parts.specs.Answer.{Answers}
use Rattle.form_parts.specs.Items.{deepest}
use Rattle.form_parts.specs.Parts.{IsTypeName, type_depth, IsBounds, bounds_depth}
use Rattle.form_parts.proofs.Answering.{both_failed, both_gave}
use Rattle.declaration_forms.specs.Now.{tokens_now, outlined_now}
use Rattle.declaration_forms.specs.Variables.{type_in, dimensions_depth}
use Rattle.declaration_forms.specs.Wholes.{IsOptional, AreItems, optional_depth}
use Rattle.declaration_forms.proofs.Declaring.{declarator_fails}
use Rattle.declaration_forms.proofs.variables.declarator.Goals as goal

pub returns-in-Ok : goal.returns-in-Ok
returns-in-Ok c =
    let ty = subst (λ z. Answers (option_map type_name_of) (IsOptional IsTypeName z) (optional_depth type_depth) c.optional_type-ty.result) c.type_in.ensures c.optional_type-ty.ensures in
    let gave = both_gave (option_map (map bounds_of)) (option_map type_name_of) (IsOptional (AreItems IsBounds) (tokens_now c.args.outline.inside)) (IsOptional IsTypeName (type_in (tokens_now c.args.outline.ty))) (optional_depth (deepest bounds_depth)) (optional_depth type_depth) c.optional_dimensions-bounds.result c.optional_type-ty.result c.both.result (c.in-Ok.bounds, c.in-Ok.ty) c.optional_dimensions-bounds.ensures ty c.both.ensures c.in-Ok.is in
    (record { name = c.in_ok-name.ensures; suffix = refl; auto = c.is_new.ensures; bounds = gave.0.0; ty = gave.0.1 }, omega (arith, gave.1))

pub returns-in-Err : goal.returns-in-Err
returns-in-Err c =
    let ty = subst (λ z. Answers (option_map type_name_of) (IsOptional IsTypeName z) (optional_depth type_depth) c.optional_type-ty.result) c.type_in.ensures c.optional_type-ty.ensures in
    declarator_fails (outlined_now c.args.outline) c.in-Err.e
    (both_failed (option_map (map bounds_of)) (option_map type_name_of) (IsOptional (AreItems IsBounds) (tokens_now c.args.outline.inside)) (IsOptional IsTypeName (type_in (tokens_now c.args.outline.ty))) (optional_depth (deepest bounds_depth)) (optional_depth type_depth) c.optional_dimensions-bounds.result c.optional_type-ty.result c.both.result c.in-Err.e c.optional_dimensions-bounds.ensures ty c.both.ensures c.in-Err.is)
