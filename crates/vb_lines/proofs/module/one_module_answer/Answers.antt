use Rattle.vb_lines.proofs.OneAnswer.{one_answer}
use Rattle.vb_lines.proofs.module.one_module_answer.Goals as goal

pub returns : goal.returns
returns c = one_answer
