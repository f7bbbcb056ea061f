use Rattle.project_loader.proofs.Decoded.{bytes_fit, bytes_decoded}
use Rattle.project_loader.proofs.texts.decoded.Goals as goal

pub returns-in-Ok : goal.returns-in-Ok
returns-in-Ok c =
    bytes_decoded c.args.bytes.now c.in-Ok.text (bytes_fit c.args.bytes.now c.type_inv.bytes) c.in-Ok.ensures.ok
