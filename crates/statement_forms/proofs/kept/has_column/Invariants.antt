use Rattle.std.proofs.Common.{◌≡◌, drop, false}
use Rattle.statement_forms.specs.Fronts.{has_column}
use Rattle.statement_forms.proofs.kept.has_column.Given as goal

abbrev pub invariant-loop-token : goal.invariant-loop-token
invariant-loop-token l = has_column false l.tokens ≡ has_column l.named (drop l.token-index l.tokens)
