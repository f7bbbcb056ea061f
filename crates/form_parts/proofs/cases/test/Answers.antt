use Rattle.std.proofs.Common.{sym, ◌∙◌}
use Rattle.form_parts.proofs.Casing.{test_fails}
use Rattle.form_parts.proofs.cases.test.Goals as goal

pub returns-in-Err : goal.returns-in-Err
returns-in-Err c =
    test_fails c.args.tokens.now c.sign-item.result c.in-Some.op c.requires c.in-len2-up.len_at_least c.sign-item.is (sym c.comparison.ensures ∙ c.in-Some.is) c.in-Err.e c.in-Err.ensures
