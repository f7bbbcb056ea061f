use Rattle.target_laws.proofs.Bodies.{lines_in_order}
use Rattle.target_laws.proofs.laws.lines_in_order.Goals as goal

pub returns : goal.returns
returns c = lines_in_order
