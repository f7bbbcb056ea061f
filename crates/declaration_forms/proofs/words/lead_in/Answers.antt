-- The row that the code finds is what the definition says.
use Rattle.std.proofs.Common.{◌∙◌}
use Rattle.declaration_forms.proofs.Leads.{row_is_lead}
use Rattle.declaration_forms.proofs.words.lead_in.Goals as goal

pub returns : goal.returns
returns c = c.row_of.ensures ∙ row_is_lead c.table.result.now c.args.word.now c.table.ensures
