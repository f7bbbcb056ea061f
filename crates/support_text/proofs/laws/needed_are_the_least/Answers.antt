use Rattle.support_text.proofs.Least.{least_set}
use Rattle.support_text.proofs.laws.needed_are_the_least.Goals as goal

pub returns : goal.returns
returns c = least_set
