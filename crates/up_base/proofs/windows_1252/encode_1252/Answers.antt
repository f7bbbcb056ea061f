use Rattle.std.proofs.Common.{sym}
use Rattle.up_base.proofs.Units.{place_stands}
use Rattle.up_base.proofs.windows_1252.encode_1252.Goals as goal

pub returns-clause-stands : goal.returns-clause-stands
returns-clause-stands c = place_stands c.args.unit c.in_ok-place.place (sym c.in_ok-place.ensures)
