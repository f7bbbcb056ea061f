use Rattle.std.proofs.Common.{arith, ◌+◌, ◌*◌, ◌<◌, get_or}
use Rattle.vb_tree.specs.Tokens.{digit_value}
use Rattle.vb_lexer.proofs.Values.{past_limit}
use Rattle.vb_lexer.proofs.units.value.Goals as goal

pub returns-then-n-most : goal.returns-then-n-most
returns-then-n-most c =
    past_limit c.args.base c.loop-c.n c.loop-c.c-index c.args.most c.args.digits.now c.requires.positive (omega arith)
    (let above : c.args.most < c.loop-c.n * c.args.base + digit_value (get_or c.args.digits.now c.loop-c.c-index 0) = omega arith in above)
    c.loop-c.invariant.0
