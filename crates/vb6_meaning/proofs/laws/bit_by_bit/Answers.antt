use Rattle.vb6_meaning.proofs.EachBit.{bit_by_bit}
use Rattle.vb6_meaning.proofs.laws.bit_by_bit.Goals as goal

pub returns : goal.returns
returns c = bit_by_bit
