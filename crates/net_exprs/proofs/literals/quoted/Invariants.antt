use Rattle.std.proofs.Common.{◌≡◌, ◌≤◌, false, length}
use Rattle.net_exprs.specs.Literals.{units_at}
use Rattle.net_exprs.proofs.Quotes.{with_units}
use Rattle.net_exprs.proofs.literals.quoted.Given as goal

abbrev pub invariant-units : goal.invariant-units
invariant-units l = record {
  same : units_at l.fn.text false ≡ with_units l.units (units_at l.rest false);
  shorter : length l.rest ≤ length l.fn.text;
}

abbrev pub decreases-units : goal.decreases-units
decreases-units l = length l.rest
