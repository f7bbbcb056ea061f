use Rattle.project_loader.proofs.Decoded.{filled_decoded, filled_none}
use Rattle.project_loader.proofs.texts.filled_and_decoded.Goals as goal

pub returns-in-Ok : goal.returns-in-Ok
returns-in-Ok c =
    let units = rw (c.deref.ensures.value, c.in_ok-filled.ensures.filled) at c.in-Ok.ensures.ok in
    filled_decoded c.args.bytes.now c.in-Ok.text c.in_ok-filled.ensures.bytes units

pub unreachable-requires : goal.unreachable-requires
unreachable-requires c =
    let place = rw (c.in-Err-Undefined.field-0-is, c.deref.ensures.value, c.in_ok-filled.ensures.filled) at c.in-Err-Undefined.ensures.undefined in
    filled_none c.args.bytes.now c.in-Err-Undefined.field-0-0 place
