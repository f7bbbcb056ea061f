use Rattle.std.proofs.Common.{refl}
use Rattle.statement_forms.proofs.pieces.read_piece.Goals as goal

pub returns-in-Err-NotFound : goal.returns-in-Err-NotFound
returns-in-Err-NotFound c =
    let none = rw c.in-Err-NotFound.field-0-is at c.in-Err-NotFound.ensures in
    (refl, λ f n q. none (f, n) q)
