use Rattle.meaning_laws.proofs.LiteralRows.{constant}
use Rattle.meaning_laws.proofs.laws.same_constant.Goals as goal

pub returns : goal.returns
returns c = constant
