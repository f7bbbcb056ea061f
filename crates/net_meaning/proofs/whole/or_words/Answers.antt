use Rattle.vb6_meaning.proofs.TwosComplement.{or_machine}
use Rattle.net_meaning.proofs.whole.or_words.Goals as goal

pub returns : goal.returns
returns c = or_machine c.args.a c.args.b c.ranges.a c.ranges.b
