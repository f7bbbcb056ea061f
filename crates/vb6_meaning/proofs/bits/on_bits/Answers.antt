use Rattle.std.proofs.Common.{ap, ◌∙◌, sym}
use Rattle.vb6_meaning.specs.Bits.{bitwise}
use Rattle.vb6_meaning.specs.Rows.{bit_rule}
use Rattle.vb6_meaning.proofs.TwosComplement.{and_machine, or_machine, xor_machine, alike_machine, implies_machine}
use Rattle.vb6_meaning.proofs.bits.on_bits.Goals as goal

pub returns-in-Both : goal.returns-in-Both
returns-in-Both c = and_machine c.args.x c.args.y c.ranges.x c.ranges.y ∙ ap (λ r. bitwise (bit_rule r) c.args.x c.args.y) (sym c.in-Both.is)

pub returns-in-Either : goal.returns-in-Either
returns-in-Either c = or_machine c.args.x c.args.y c.ranges.x c.ranges.y ∙ ap (λ r. bitwise (bit_rule r) c.args.x c.args.y) (sym c.in-Either.is)

pub returns-in-OneAlone : goal.returns-in-OneAlone
returns-in-OneAlone c = xor_machine c.args.x c.args.y c.ranges.x c.ranges.y ∙ ap (λ r. bitwise (bit_rule r) c.args.x c.args.y) (sym c.in-OneAlone.is)

pub returns-in-Alike : goal.returns-in-Alike
returns-in-Alike c = alike_machine c.args.x c.args.y c.ranges.x c.ranges.y ∙ ap (λ r. bitwise (bit_rule r) c.args.x c.args.y) (sym c.in-Alike.is)

pub returns-in-Implies : goal.returns-in-Implies
returns-in-Implies c = implies_machine c.args.x c.args.y c.ranges.x c.ranges.y ∙ ap (λ r. bitwise (bit_rule r) c.args.x c.args.y) (sym c.in-Implies.is)
