use Rattle.binding_laws.proofs.laws.bound_runs_leave_at_edges.Goals as goal
use Rattle.binding_laws.proofs.TypedLines.{bound_runs_leave}

pub returns : goal.returns
returns c = bound_runs_leave
