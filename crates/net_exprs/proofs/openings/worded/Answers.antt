use Rattle.std.proofs.Common.{arith, length, sym}
use Rattle.net_exprs.proofs.Answering.{shorter_up}
use Rattle.net_exprs.proofs.Fronts.{keyword_is_word}
use Rattle.net_exprs.proofs.openings.worded.Goals as goal

pub returns-in-Some-clause-shorter : goal.returns-in-Some-clause-shorter
returns-in-Some-clause-shorter c =
    shorter_up c.keyworded.result (length c.word_at.result.1.now) (length c.args.text.now)
    (omega (arith, c.word_at.ensures.lengths, keyword_is_word c.word_at.result.0.now c.in-Some.keyword (sym c.in-Some.ensures))) c.keyworded.ensures.shorter
