use Rattle.std.proofs.Common.{ap}
use Rattle.written_members.specs.Noted.{items_in}
use Rattle.written_members.proofs.statements.taken.Goals as goal

pub returns-in-Some-clause-others : goal.returns-in-Some-clause-others
returns-in-Some-clause-others g c = λ f n apart. ap items_in (c.remove.ensures.updates.2 (f, n) apart)
