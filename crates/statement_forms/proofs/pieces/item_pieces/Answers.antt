use Rattle.std.proofs.Common.{◌+◌, [], ◌∷◌, ◌++◌, length, sym, ap, ◌∙◌, subst, arith, append_assoc, Err}
use Rattle.form_parts.specs.declared.cuts.Separator.TheVariants as sep
use Rattle.form_parts.specs.Cuts.{pieces}
use Rattle.form_parts.specs.Now.{both_now}
use Rattle.form_parts.proofs.Listing.{parted_shorter}
use Rattle.statement_forms.specs.Pieces.{ItemMeans, slots_at, list_slots, ArePieces, PieceAnswers}
use Rattle.statement_forms.proofs.Slotting.{parted_length, one_more_piece, slot_fails, slots_next, slots_last}
use Rattle.statement_forms.proofs.pieces.item_pieces.Goals as goal

pub returns-in-Err : goal.returns-in-Err
returns-in-Err c =
    let known = c.loop-part.invariant in
    let start = c.loop-part.start in
    let part = c.in-Some.part.now in
    let after = c.in-Some.after.now in
    let cut = sym c.parted.ensures ∙ ap both_now c.in-Some.is in
    let next = slots_next c.loop-part.from start c.loop-part.rest.now part after cut in
    let more = slots_at (start + length part + 1) (start + length part + 1) (pieces sep.Comma after) in
    slot_fails (ItemMeans c.args.erases) known.0.0 (part, (c.loop-part.from, start + length part)) more (list_slots c.args.tokens.now) c.loop-part.pieces (known.0.1 ∙ ap (λ z. known.0.0 ++ z) next) known.0.2 c.in-Err.e
    (subst (λ k. PieceAnswers (ItemMeans c.args.erases) (c.in-Some.part.now, (c.loop-part.from, c.loop-part.start + length c.in-Some.part.now)) k (Err c.in-Err.e)) c.len.ensures c.in-Err.ensures)

pub loop-part-smaller : goal.loop-part-smaller
loop-part-smaller c =
    let cut = sym c.parted.ensures ∙ ap both_now c.in-Some.is in
    parted_shorter sep.Comma 0 c.loop-part.rest.now c.in-Some.part.now c.in-Some.after.now cut

pub loop-part-preserved : goal.loop-part-preserved
loop-part-preserved c =
    let known = c.loop-part.invariant in
    let start = c.loop-part.start in
    let part = c.in-Some.part.now in
    let after = c.in-Some.after.now in
    let cut = sym c.parted.ensures ∙ ap both_now c.in-Some.is in
    let next = slots_next c.loop-part.from start c.loop-part.rest.now part after cut in
    let more = slots_at (start + length part + 1) (start + length part + 1) (pieces sep.Comma after) in
    let len = parted_length sep.Comma 0 c.loop-part.rest.now part after cut in
    let all = one_more_piece (ItemMeans c.args.erases) known.0.0 (part, (c.loop-part.from, start + length part)) c.loop-part.pieces c.in-Ok.piece known.0.2 c.in-Ok.ensures in (
      (
        known.0.0 ++ (part, (c.loop-part.from, start + length part)) ∷ [],
        known.0.1 ∙ ap (λ z. known.0.0 ++ z) next ∙ sym (append_assoc known.0.0 ((part, (c.loop-part.from, start + length part)) ∷ []) more),
        subst (λ z. ArePieces (ItemMeans c.args.erases) (known.0.0 ++ (c.in-Some.part.now, (c.loop-part.from, c.loop-part.start + length c.in-Some.part.now)) ∷ []) z) (sym c.in_ok-push-in-Ok.ensures.ok) all,
      ),
      omega (arith, len, known.1),
    )

pub returns-in-Err-read_piece : goal.returns-in-Err-read_piece
returns-in-Err-read_piece c =
    let known = c.loop-part.invariant in
    let start = c.loop-part.start in
    let rest = c.loop-part.rest.now in
    let cut = sym c.parted.ensures ∙ ap both_now c.in_default.is in
    let last = slots_last c.loop-part.from start rest cut in
    slot_fails (ItemMeans c.args.erases) known.0.0 (rest, (c.loop-part.from, start + length rest)) [] (list_slots c.args.tokens.now) c.loop-part.pieces (known.0.1 ∙ ap (λ z. known.0.0 ++ z) last) known.0.2 c.in-Err-read_piece.e
    (subst (λ k. PieceAnswers (ItemMeans c.args.erases) (c.loop-part.rest.now, (c.loop-part.from, c.loop-part.start + length c.loop-part.rest.now)) k (Err c.in-Err-read_piece.e)) c.len-2.ensures c.in-Err-read_piece.ensures)

pub returns : goal.returns
returns c =
    let known = c.loop-part.invariant in
    let start = c.loop-part.start in
    let rest = c.loop-part.rest.now in
    let cut = sym c.parted.ensures ∙ ap both_now c.in_default.is in
    let last = slots_last c.loop-part.from start rest cut in
    let all = one_more_piece (ItemMeans c.args.erases) known.0.0 (rest, (c.loop-part.from, start + length rest)) c.loop-part.pieces c.in-Ok-read_piece.piece known.0.2 c.in-Ok-read_piece.ensures in
    let whole = known.0.1 ∙ ap (λ z. known.0.0 ++ z) last in
    subst (λ z. ArePieces (ItemMeans c.args.erases) z c.push-in-Ok-read_piece.new.self) (sym whole)
    (subst (λ z. ArePieces (ItemMeans c.args.erases) (known.0.0 ++ (c.loop-part.rest.now, (c.loop-part.from, c.loop-part.start + length c.loop-part.rest.now)) ∷ []) z) (sym c.in_ok-push-in-Ok-read_piece.ensures.ok) all)
