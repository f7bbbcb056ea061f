use Rattle.std.proofs.Common.{ap, sym, ◌∙◌, map, take}
use Rattle.std.proofs.lemmas.List.{take-map}
use Rattle.vb_tree.specs.View.{bounds_of}
use Rattle.bound_tree.specs.View.{expr_of}
use Rattle.bound_facts.specs.Parts.{total}
use Rattle.byref_analysis.specs.Lines.{behind_first}
use Rattle.byref_analysis.proofs.lines.own_bounds.Goals as goal

pub returns : goal.returns
returns c =
    ap (map expr_of) c.front.ensures ∙ sym (take-map expr_of c.in_ok-n.n c.behind_first.result.now) ∙ ap (take c.in_ok-n.n) c.behind_first.ensures
    ∙ ap (λ k. take k (behind_first (map expr_of c.args.exprs.now))) (c.in_ok-n.ensures ∙ ap (λ bs. total (map bounds_of bs)) c.as_slice.ensures)
