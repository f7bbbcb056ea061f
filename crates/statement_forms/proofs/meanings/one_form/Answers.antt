use Rattle.statement_forms.proofs.OneMeaning.{one_meaning}
use Rattle.statement_forms.proofs.meanings.one_form.Goals as goal

pub returns : goal.returns
returns c = one_meaning
