use Rattle.std.proofs.Common.{arith}
use Rattle.project_loader.proofs.Taking.{long_with_others}
use Rattle.project_loader.proofs.modules.entry_bytes.Goals as goal

pub returns-then-len-before-clause-fault : goal.returns-then-len-before-clause-fault
returns-then-len-before-clause-fault g c =
    λ number. long_with_others (g.F.Folder.held c.args.folder.now) c.args.before number c.args.entry.now c.in_ok-bytes.bytes c.fault_at.result c.fault_at.ensures
    (omega (arith, c.if-len-before.true, c.len.ensures, c.requires)) c.in_ok-bytes.ensures.bytes
