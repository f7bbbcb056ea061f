use Rattle.std.proofs.Common.{rules, tests, ◌==◌, sym, ap, ◌∙◌}
use Rattle.std.proofs.lemmas.Iterator.{YieldsList-from_slice}
use Rattle.std.proofs.lemmas.Iterator.Search.{position_from_yields_List}
use Rattle.project_file.proofs.Cuts.{parted_at, parted_nowhere}
use Rattle.project_file.specs.Lines.{both_now}
use Rattle.project_file.proofs.lines.parted.Goals as goal

pub returns-in_err-at : goal.returns-in_err-at
returns-in_err-at c =
    let text = c.args.text.now in
    let first = position_from_yields_List (λ x. x == c.args.sign) _ _ c.position.result c.position.ensures.ran (YieldsList-from_slice text cc) (λ x b q k. search (rules, tests)) in
    ap both_now c.from_residual.ensures ∙ parted_nowhere c.args.sign text (sym c.in_err-at.was ∙ first)

pub returns : goal.returns
returns c =
    let text = c.args.text.now in
    let first = position_from_yields_List (λ x. x == c.args.sign) _ _ c.position.result c.position.ensures.ran (YieldsList-from_slice text cc) (λ x b q k. search (rules, tests)) in
    parted_at c.args.sign text c.in_ok-at.at (sym c.in_ok-at.was ∙ first)
