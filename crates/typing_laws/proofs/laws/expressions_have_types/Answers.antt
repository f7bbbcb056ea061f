use Rattle.typing_laws.proofs.laws.expressions_have_types.Goals as goal
use Rattle.typing_laws.proofs.Joined.{expression_has_type}

pub returns : goal.returns
returns c = expression_has_type
