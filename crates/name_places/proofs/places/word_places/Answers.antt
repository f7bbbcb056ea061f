use Rattle.std.proofs.Common.{◌&&◌, ◌∙◌, ap, cond}
use Rattle.std.specs.Prelude.{None, Some}
use Rattle.indexmap.specs.IndexMap.{get}
use Rattle.name_places.specs.declared.places.Row.{Row}
use Rattle.name_places.specs.Places.{first_of, has_word, is_home, is_same_pair, keyed, noted}
use Rattle.name_places.proofs.Firsts.{note_end, note_step}
use Rattle.name_places.proofs.places.word_places.Goals as goal

pub loop-i-preserved : goal.loop-i-preserved
loop-i-preserved c = λ h w.
    note_step (λ (r : Row). has_word c.args.words.now h w (keyed r)) c.args.rows.now c.loop-i.i c.index-rows-i.result _ _ c.loop-i-test.true c.index-rows-i.is
    (c.loop-i.invariant h w)
    (c.in_ok-note_place.ensures h w
    ∙ ap (λ o. first_of (get is_same_pair c.loop-i.places (h, w)) (cond (is_home h c.index-rows-i.result.home && is_home w o) (Some c.loop-i.i) None))
    (c.word_of.ensures ∙ ap (noted c.args.words.now) c.lower_bytes.ensures))

pub returns : goal.returns
returns c = λ h w. c.loop-i.invariant h w ∙ note_end (λ (r : Row). has_word c.args.words.now h w (keyed r)) c.args.rows.now c.loop-i.i c.loop-i-test.false
