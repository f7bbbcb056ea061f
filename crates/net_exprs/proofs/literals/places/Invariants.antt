use Rattle.std.proofs.Common.{◌≡◌, ◌+◌, ◌*◌, ◌≤◌, length}
use Rattle.net_exprs.specs.Literals.{places_from}
use Rattle.net_exprs.proofs.literals.places.Given as goal

abbrev pub invariant-places : goal.invariant-places
invariant-places l = record {
  same : places_from l.weight l.places l.rest ≡ places_from 1000 0 l.fn.text;
  small : l.places + 10 * l.weight ≤ 10000;
  shorter : length l.rest ≤ length l.fn.text;
}

abbrev pub decreases-places : goal.decreases-places
decreases-places l = length l.rest
