use Rattle.std.proofs.Common.{◌+◌, ◌*◌}
use Rattle.expression_words.proofs.targets.+let_targets.Given as goal

abbrev pub decreases-let_known : goal.decreases-let_known
decreases-let_known l = 3 * l.n

abbrev pub decreases-let_typed : goal.decreases-let_typed
decreases-let_typed l = 3 * l.n + 1

abbrev pub decreases-let_procedure : goal.decreases-let_procedure
decreases-let_procedure l = 3 * l.n + 2
