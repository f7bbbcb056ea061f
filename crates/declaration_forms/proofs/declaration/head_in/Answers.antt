use Rattle.std.proofs.Common.{◌∙◌, sym, option_map}
use Rattle.vb_tree.specs.View.{signature_of, result_of}
use Rattle.form_parts.proofs.Answering.{both_failed, both_gave}
use Rattle.declaration_forms.specs.Heads.{SignatureOf, signature_depth, IsResult, result_depth}
use Rattle.declaration_forms.specs.Now.{tokens_now, outlined_now}
use Rattle.declaration_forms.specs.Wholes.{IsOptional, optional_depth}
use Rattle.declaration_forms.proofs.Lines.{head_fails}
use Rattle.declaration_forms.proofs.declaration.head_in.Goals as goal

pub returns-in-Ok : goal.returns-in-Ok
returns-in-Ok c =
    let gave = both_gave signature_of (option_map (λ r. result_of r.value)) (SignatureOf c.args.seen (outlined_now c.args.outline)) (IsOptional IsResult (tokens_now c.args.outline.ty)) signature_depth (optional_depth result_depth) c.signature-signature.result c.optional_result.result c.both.result (c.in-Ok.signature, c.in-Ok.ty) c.signature-signature.ensures c.optional_result.ensures c.both.ensures c.in-Ok.is in
    (record { signed = gave.0.0; may = sym c.may_result.ensures ∙ c.if-not-may_result.false; gives = gave.0.1 }, gave.1)

pub returns-in-Err : goal.returns-in-Err
returns-in-Err c =
    head_fails c.args.kind c.args.seen (outlined_now c.args.outline) (sym c.may_result.ensures ∙ c.if-not-may_result.false) c.in-Err.e
    (both_failed signature_of (option_map (λ r. result_of r.value)) (SignatureOf c.args.seen (outlined_now c.args.outline)) (IsOptional IsResult (tokens_now c.args.outline.ty)) signature_depth (optional_depth result_depth) c.signature-signature.result c.optional_result.result c.both.result c.in-Err.e c.signature-signature.ensures c.optional_result.ensures c.both.ensures c.in-Err.is)
