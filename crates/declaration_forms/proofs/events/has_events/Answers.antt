use Rattle.std.proofs.Common.{◌∷◌, [], sym, ap, ◌∙◌, cond, true, false}
use Rattle.form_parts.specs.Cuts.{pieces}
use Rattle.form_parts.specs.Now.{both_now}
use Rattle.form_parts.specs.declared.cuts.Separator.TheVariants.{Comma}
use Rattle.form_parts.proofs.Listing.{pieces_last, pieces_next, parted_shorter}
use Rattle.declaration_forms.specs.Starts.{has_events}
use Rattle.declaration_forms.proofs.Ends.{as_it_is}
use Rattle.declaration_forms.proofs.events.has_events.Goals as goal

pub loop-piece-smaller : goal.loop-piece-smaller
loop-piece-smaller c =
    let cut = sym c.parted.ensures ∙ ap both_now c.in-Some.is in
    parted_shorter Comma 0 c.loop-piece.rest.now c.in-Some.piece.now c.in-Some.after.now cut

pub loop-piece-preserved : goal.loop-piece-preserved
loop-piece-preserved c =
    let cut = sym c.parted.ensures ∙ ap both_now c.in-Some.is in
    let next = pieces_next Comma c.loop-piece.rest.now c.in-Some.piece.now c.in-Some.after.now cut in
    c.loop-piece.invariant ∙ ap has_events next ∙ ap (λ b. cond b true (has_events (pieces Comma c.in-Some.after.now))) (sym c.begins_with.ensures ∙ c.if-begins_with.false)

pub returns-then-begins_with : goal.returns-then-begins_with
returns-then-begins_with c =
    let cut = sym c.parted.ensures ∙ ap both_now c.in-Some.is in
    let next = pieces_next Comma c.loop-piece.rest.now c.in-Some.piece.now c.in-Some.after.now cut in
    sym (c.loop-piece.invariant ∙ ap has_events next ∙ ap (λ b. cond b true (has_events (pieces Comma c.in-Some.after.now))) (sym c.begins_with.ensures ∙ c.if-begins_with.true))

pub returns : goal.returns
returns c =
    let cut = sym c.parted.ensures ∙ ap both_now c.in_default.is in
    c.begins_with-2.ensures ∙ sym (c.loop-piece.invariant ∙ ap has_events (pieces_last Comma c.loop-piece.rest.now cut) ∙ as_it_is _)
