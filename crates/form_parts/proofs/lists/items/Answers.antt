use Rattle.std.proofs.Common.{[], ◌∷◌, ◌++◌, sym, ap, ◌∙◌, subst, append_assoc}
use Rattle.form_parts.specs.Answer.{Answers}
use Rattle.form_parts.specs.Cuts.{pieces, Each}
use Rattle.form_parts.specs.Items.{deepest}
use Rattle.form_parts.specs.Now.{both_now}
use Rattle.std.proofs.Common.{map}
use Rattle.form_parts.proofs.Listing.{more_or_mem, pieces_last, pieces_next, parted_shorter}
use Rattle.form_parts.proofs.lists.items.Goals as goal

pub loop-piece-smaller : goal.loop-piece-smaller
loop-piece-smaller g c =
    let cut = sym c.parted.ensures ∙ ap both_now c.in-Some.is in
    parted_shorter c.args.separator 0 c.loop-piece.rest.now c.in-Some.piece.now c.in-Some.after.now cut

pub loop-piece-preserved : goal.loop-piece-preserved
loop-piece-preserved g c =
    let cut = sym c.parted.ensures ∙ ap both_now c.in-Some.is in
    let known = c.loop-piece.invariant in
    let next = pieces_next c.args.separator c.loop-piece.rest.now c.in-Some.piece.now c.in-Some.after.now cut in (
      known.0 ++ c.in-Some.piece.now ∷ [],
      known.1 ∙ ap (λ z. known.0 ++ z) next ∙ sym (append_assoc known.0 (c.in-Some.piece.now ∷ []) (pieces c.args.separator c.in-Some.after.now)),
      more_or_mem g.T.Part.view g.T.Part.Is g.T.Part.depth known.0 c.in-Some.piece.now c.loop-piece.so_far c.read.result c.one_more-so_far.result known.2 c.read.ensures c.one_more-so_far.ensures,
    )

pub returns : goal.returns
returns g c =
    let cut = sym c.parted.ensures ∙ ap both_now c.in_default.is in
    let known = c.loop-piece.invariant in
    let all = known.1 ∙ ap (λ z. known.0 ++ z) (pieces_last c.args.separator c.loop-piece.rest.now cut) in
    let last = more_or_mem g.T.Part.view g.T.Part.Is g.T.Part.depth known.0 c.loop-piece.rest.now c.loop-piece.so_far c.read-2.result c.one_more.result known.2 c.read-2.ensures c.one_more.ensures in
    subst (Answers (map g.T.Part.view) (Each g.T.Part.Is (pieces c.args.separator c.args.tokens.now)) (deepest g.T.Part.depth)) (sym c.fitted.ensures)
    (subst (λ z. Answers (map g.T.Part.view) (Each g.T.Part.Is z) (deepest g.T.Part.depth) c.one_more.result) (sym all) last)
