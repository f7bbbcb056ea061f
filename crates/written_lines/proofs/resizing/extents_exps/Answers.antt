use Rattle.std.proofs.Common.{List, ◌∷◌, ◌+◌, map, drop, sym, ap, ◌∙◌}
use Rattle.std.proofs.lemmas.List.{drop_all, drop_more}
use Rattle.array_bounds.specs.Views.{extent_of}
use Rattle.array_bounds.specs.declared.resizes.ExtentRef.{ExtentRef}
use Rattle.net_tree.specs.declared.expression.NetExpr.{NetExpr}
use Rattle.written_trees.specs.Lines.{extents_exps}
use Rattle.written_rows.specs.View.{scope_of}
use Rattle.written_lines.proofs.Lists.{all_listed, extent_behind, with_behind}
use Rattle.written_lines.proofs.resizing.extents_exps.Goals as goal

pub loop-d-preserved : goal.loop-d-preserved
loop-d-preserved c =
    let S = scope_of c.args.scope.now in
    let xs = c.args.extents.now in
    let d = c.loop-d.d in
    let x = c.index-extents-d.result in
    let cut = drop_more xs d x c.loop-d-test.true ∙ ap (λ (y : ExtentRef). y ∷ drop (d + 1) xs) (sym c.index-extents-d.is) in
    ap (λ (list : List NetExpr). with_behind list (extents_exps S c.args.array (d + 1) (map extent_of (drop (d + 1) xs)))) c.in_ok-push.ensures.items
    ∙ extent_behind S c.args.array xs d x c.loop-d.all.items c.in_ok-extent_exp.field-0 cut c.in_ok-extent_exp.ensures
    ∙ c.loop-d.invariant

pub returns : goal.returns
returns c =
    let S = scope_of c.args.scope.now in
    sym (all_listed c.loop-d.all.items)
    ∙ ap (λ (ys : List ExtentRef). with_behind c.loop-d.all.items (extents_exps S c.args.array c.loop-d.d (map extent_of ys))) (sym (drop_all c.loop-d.d c.args.extents.now c.loop-d-test.false))
    ∙ c.loop-d.invariant
