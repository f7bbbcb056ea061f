use Rattle.net_exprs.proofs.Fronts.{after_found}
use Rattle.net_exprs.proofs.characters.after.Goals as goal

pub returns-clause-rest : goal.returns-clause-rest
returns-clause-rest c = after_found c.args.front.now c.args.text.now c.strip_prefix.result c.strip_prefix.ensures.cases
