use Rattle.std.proofs.Common.{sym, ◌∙◌}
use Rattle.form_parts.proofs.Casing.{optional_type_fails}
use Rattle.form_parts.proofs.redims.optional_type.Goals as goal

pub returns-in-Err : goal.returns-in-Err
returns-in-Err c =
    optional_type_fails c.args.tokens.now c.first-item.result c.in-len1-up.len_at_least c.first-item.is (sym c.is_key.ensures ∙ c.if-not-is_key.false) c.in-Err.e c.in-Err.ensures
