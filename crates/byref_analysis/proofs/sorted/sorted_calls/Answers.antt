use Rattle.std.proofs.Common.{◌∙◌}
use Rattle.byref_analysis.proofs.sorted.sorted_calls.Goals as goal

pub returns-clause-exact : goal.returns-clause-exact
returns-clause-exact c p = rw (c.in_ok-as_ids.ensures ∙ c.deref.ensures.value) (c.in_ok-sorted.ensures.pairs p)
