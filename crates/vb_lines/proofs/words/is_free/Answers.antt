use Rattle.std.proofs.Common.{ap, ◌∙◌, not, nat_eq}
use Rattle.std.specs.List.{list_any}
use Rattle.std.specs.Cmp.Lexicographic.{pointwise}
use Rattle.vb_lines.proofs.Reserved.{free_word}
use Rattle.vb_lines.proofs.words.is_free.Goals as goal

pub returns : goal.returns
returns c =
    let words = c.reserved.result.now in
    ap not (c.is_among.ensures ∙ ap (λ w. list_any (λ r. pointwise nat_eq w r.now) words) c.lower_bytes.ensures) ∙ free_word words c.args.name.now c.reserved.ensures
