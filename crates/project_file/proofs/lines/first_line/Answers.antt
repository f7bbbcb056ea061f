use Rattle.std.proofs.Common.{rules, tests, ◌≡◌, length, take, drop, unwrap_or, ap, ◌∙◌}
use Rattle.std.proofs.lemmas.Iterator.{YieldsList-from_slice}
use Rattle.std.proofs.lemmas.Iterator.Search.{position_from_yields_List}
use Rattle.project_file.specs.Lines.{is_line_end}
use Rattle.project_file.proofs.Cuts.{end_of, found_or_end, first_cut}
use Rattle.project_file.proofs.lines.first_line.Goals as goal

pub returns-clause-lines : goal.returns-clause-lines
returns-clause-lines c =
    let text = c.args.text.now in
    let first = position_from_yields_List is_line_end _ _ c.position.result c.position.ensures.ran (YieldsList-from_slice text cc) (λ x b q k. search (rules, tests)) in
    let end : c.unwrap_or-end.result ≡ end_of text = c.unwrap_or-end.ensures ∙ ap (λ o. unwrap_or o (length text)) first ∙ found_or_end is_line_end text in
    let front = c.split_at.ensures.front ∙ ap (λ n. take n text) end in
    let back = c.split_at.ensures.back ∙ ap (λ n. drop n text) end in
    rw (front, c.past_line_end.ensures, back) (first_cut text c.requires)
