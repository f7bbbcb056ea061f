use Rattle.std.proofs.Common.{ap, map, option_map}
use Rattle.vb_tree.specs.View.{bounds_of, type_name_of}
use Rattle.form_parts.specs.Items.{deepest}
use Rattle.form_parts.specs.Parts.{IsTypeName, type_depth, IsBounds, bounds_depth}
use Rattle.form_parts.proofs.Answering.{both_failed, both_gave}
use Rattle.declaration_forms.specs.Now.{tokens_now, outlined_now}
use Rattle.declaration_forms.specs.Wholes.{IsOptional, AreItems, optional_depth}
use Rattle.declaration_forms.proofs.Declaring.{field_fails, field_gives}
use Rattle.declaration_forms.proofs.variables.field_in.Goals as goal

pub returns-in_ok-new-in-Ok : goal.returns-in_ok-new-in-Ok
returns-in_ok-new-in-Ok c =
    let gave = both_gave (option_map (map bounds_of)) type_name_of (IsOptional (AreItems IsBounds) (tokens_now c.args.outline.inside)) (IsTypeName c.in-Some.ty.now) (optional_depth (deepest bounds_depth)) type_depth c.optional_dimensions-bounds.result c.read.result c.both.result (c.in-Ok.bounds, c.in-Ok.ty) c.optional_dimensions-bounds.ensures c.read.ensures c.both.ensures c.in-Ok.is in
    rw c.in_ok-new-in-Ok.ensures.ok (rw c.in_ok-name.ensures (field_gives (outlined_now c.args.outline) c.in-Some.ty.now (ap tokens_now c.in-Some.is) (option_map (map bounds_of) c.in-Ok.bounds) (type_name_of c.in-Ok.ty) gave.0.0 gave.0.1, gave.1))

pub returns-in-Err : goal.returns-in-Err
returns-in-Err c =
    field_fails (outlined_now c.args.outline) c.in-Some.ty.now (ap tokens_now c.in-Some.is) c.in-Err.e
    (both_failed (option_map (map bounds_of)) type_name_of (IsOptional (AreItems IsBounds) (tokens_now c.args.outline.inside)) (IsTypeName c.in-Some.ty.now) (optional_depth (deepest bounds_depth)) type_depth c.optional_dimensions-bounds.result c.read.result c.both.result c.in-Err.e c.optional_dimensions-bounds.ensures c.read.ensures c.both.ensures c.in-Err.is)
