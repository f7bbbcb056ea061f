use Rattle.std.proofs.Common.{◌≡◌, length, take, sym, ap, ◌∙◌, arith}
use Rattle.std.proofs.Math.Seq.{take-length}
use Rattle.vb_lexer.proofs.Runs.{are_name}
use Rattle.vb_lexer.proofs.words.name_of.Goals as goal

pub from_valid-requires : goal.from_valid-requires
from_valid-requires c =
    let units = c.args.units.now in
    let whole : c.loop-at.at ≡ length units = omega (arith, c.loop-at-test.false, c.loop-at.auto.at-end) in
    let same : take (length units) c.loop-at.bytes ≡ units =
    ap (λ k. take k c.loop-at.bytes) (sym whole) ∙ c.loop-at.invariant.0 ∙ ap (λ k. take k units) whole ∙ take-length units in
    are_name units (take (length units) c.loop-at.bytes) same c.requires.all c.requires.some c.requires.few
