use Rattle.std.proofs.Common.{sym}
use Rattle.net_reader.proofs.Declaring.{ranked_fails}
use Rattle.net_reader.proofs.declarations.ranked_type.Goals as goal

pub returns-in-Err-clause-answers : goal.returns-in-Err-clause-answers
returns-in-Err-clause-answers c = ranked_fails c.args.rank c.args.text.now c.in-Err.e (rw (sym c.behind.ensures) c.in-Err.ensures.answers)
