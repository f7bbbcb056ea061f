use Rattle.std.proofs.Common.{◌∙◌, sym}
use Rattle.vb_exprs.proofs.Keywords.{row_is_keyword, no_keyword, empty_is_no_keyword}
use Rattle.vb_exprs.proofs.token_class.keyword.Goals as goal

pub returns-in_default : goal.returns-in_default
returns-in_default c = sym (empty_is_no_keyword c.args.lower.now c.in_default.len_below)

pub returns-in-Some : goal.returns-in-Some
returns-in-Some c = c.row_of.ensures ∙ row_is_keyword c.in-Some.rows.now c.args.lower.now 0 c.in-len1-up.len_at_least c.in-Some.ensures

pub returns-in-None : goal.returns-in-None
returns-in-None c = sym (no_keyword c.args.lower.now 0 c.in-len1-up.len_at_least c.in-None.ensures)
