use Rattle.project_loader.proofs.Taking.{lines_stopped, lexical_stopped}
use Rattle.project_loader.proofs.modules.text_module.Goals as goal

pub returns-in_err-read_owned_module-in-Ok-clause-fault : goal.returns-in_err-read_owned_module-in-Ok-clause-fault
returns-in_err-read_owned_module-in-Ok-clause-fault c =
    lines_stopped c.args.entry.now c.args.number c.args.text c.in-Ok.lines c.read_owned_module.result c.from_residual.result
    c.in_err-read_owned_module-in-Ok.field-0.0 c.in_err-read_owned_module-in-Ok.was c.from_residual.ensures.1 c.in-Ok.ensures c.read_owned_module.ensures

pub returns-in-Err-Fault-clause-fault : goal.returns-in-Err-Fault-clause-fault
returns-in-Err-Fault-clause-fault c =
    let lexed = rw c.in-Err-Fault.field-0-is at c.in-Err-Fault.ensures in
    rw c.first_of.ensures (lexical_stopped c.args.entry.now c.args.number c.args.text c.in-Err-Fault.lexical c.in-Err-Fault.before c.read_owned_module-in-Err-Fault.result lexed c.read_owned_module-in-Err-Fault.ensures)
