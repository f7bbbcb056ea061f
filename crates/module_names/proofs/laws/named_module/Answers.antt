use Rattle.module_names.proofs.Modules.{named_module}
use Rattle.module_names.proofs.laws.named_module.Goals as goal

pub returns : goal.returns
returns c = named_module
