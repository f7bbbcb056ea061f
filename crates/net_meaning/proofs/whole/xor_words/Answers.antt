use Rattle.vb6_meaning.proofs.TwosComplement.{xor_machine}
use Rattle.net_meaning.proofs.whole.xor_words.Goals as goal

pub returns : goal.returns
returns c = xor_machine c.args.a c.args.b c.ranges.a c.ranges.b
