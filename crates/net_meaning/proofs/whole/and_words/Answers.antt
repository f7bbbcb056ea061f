use Rattle.vb6_meaning.proofs.TwosComplement.{and_machine}
use Rattle.net_meaning.proofs.whole.and_words.Goals as goal

pub returns : goal.returns
returns c = and_machine c.args.a c.args.b c.ranges.a c.ranges.b
