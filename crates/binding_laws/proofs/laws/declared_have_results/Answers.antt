use Rattle.binding_laws.proofs.laws.declared_have_results.Goals as goal
use Rattle.binding_laws.proofs.DeclaredResults.{declared_have_results}

pub returns : goal.returns
returns c = declared_have_results
