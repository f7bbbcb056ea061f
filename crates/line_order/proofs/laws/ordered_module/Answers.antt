use Rattle.line_order.proofs.Modules.{ordered_module}
use Rattle.line_order.proofs.laws.ordered_module.Goals as goal

pub returns : goal.returns
returns c = ordered_module
