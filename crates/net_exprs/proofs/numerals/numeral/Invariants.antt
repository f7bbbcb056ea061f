use Rattle.std.proofs.Common.{◌≡◌, length}
use Rattle.net_exprs.specs.Names.{numeral_from}
use Rattle.net_exprs.proofs.numerals.numeral.Given as goal

abbrev pub invariant-digits : goal.invariant-digits
invariant-digits l = numeral_from l.base l.n l.rest ≡ numeral_from l.base 0 l.fn.text

abbrev pub decreases-digits : goal.decreases-digits
decreases-digits l = length l.rest
