use Rattle.std.proofs.Common.{◌∙◌}
use Rattle.name_places.specs.declared.places.Row.{Row}
use Rattle.name_places.specs.Places.{is_housed, keyed}
use Rattle.name_places.proofs.Firsts.{note_end, note_step}
use Rattle.name_places.proofs.places.words_of.Goals as goal

pub loop-i-preserved : goal.loop-i-preserved
loop-i-preserved c = λ key.
    note_step (λ (r : Row). is_housed key (keyed r)) c.args.rows.now c.loop-i.i c.index-rows-i.result _ _ c.loop-i-test.true c.index-rows-i.is
    (c.loop-i.invariant key) (c.in_ok-note_row.ensures key)

pub returns : goal.returns
returns c = λ key. c.loop-i.invariant key ∙ note_end (λ (r : Row). is_housed key (keyed r)) c.args.rows.now c.loop-i.i c.loop-i-test.false
