use Rattle.typing_laws.proofs.laws.inert_expressions_change_nothing.Goals as goal
use Rattle.typing_laws.proofs.Inert.{inert_changes_nothing}

pub returns : goal.returns
returns c = inert_changes_nothing
