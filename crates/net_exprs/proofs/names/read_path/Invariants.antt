use Rattle.std.proofs.Common.{◌≡◌, ◌≤◌, true, length}
use Rattle.net_exprs.specs.Fitting.{fits_path}
use Rattle.net_exprs.proofs.Paths.{PathLeft}
use Rattle.net_exprs.proofs.names.read_path.Given as goal

abbrev pub invariant-names : goal.invariant-names
invariant-names l = record {
  left : PathLeft l.fn.text l.names l.rest;
  shorter : length l.rest ≤ length l.fn.text;
  held : fits_path l.names ≡ true;
}

abbrev pub decreases-names : goal.decreases-names
decreases-names l = length l.rest
