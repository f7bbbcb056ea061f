use Rattle.std.proofs.Common.{ap, ◌∙◌, sym, arith, nat_eq}
use Rattle.std.specs.Cmp.Lexicographic.{pointwise}
use Rattle.std.proofs.lemmas.List.{map-id}
use Rattle.project_file.proofs.Cuts.{pairs_same}
use Rattle.project_file.proofs.lines.is_text.Goals as goal

pub returns-then-units-text : goal.returns-then-units-text
returns-then-units-text c =
    let units = c.args.units.now in
    let text = c.args.text.now in
    c.each_same.ensures ∙ sym (pairs_same (λ x. x) units text (omega arith)) ∙ ap (λ xs. pointwise nat_eq xs text) (map-id units)
