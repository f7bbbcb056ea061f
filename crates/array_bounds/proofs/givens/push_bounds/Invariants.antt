use Rattle.std.proofs.Common.{◌≡◌, ◌++◌, drop}
use Rattle.array_bounds.specs.Givens.{bound_lows}
use Rattle.array_bounds.proofs.givens.push_bounds.Given as goal

abbrev pub invariant-loop-d : goal.invariant-loop-d
invariant-loop-d l = l.initial.to.items ++ bound_lows l.k 0 l.bounds ≡ l.to.items ++ bound_lows l.k l.d (drop l.d l.bounds)
