use Rattle.std.proofs.Common.{rules, sym, ap, ◌∙◌, map, ◌++◌, [], ◌∷◌}
use Rattle.std.proofs.lemmas.List.{map-append}
use Rattle.vb_tree.specs.View.{nodes_of}
use Rattle.bound_tree.specs.Lines.{lines_of}
use Rattle.bound_tree.specs.View.{with_body}
use Rattle.bound_tree.proofs.lines.push_body.Goals as goal

pub returns-in_ok-push-in-Some : goal.returns-in_ok-push-in-Some
returns-in_ok-push-in-Some c =
    let old = map lines_of c.args.all.now.items in
    ap (map lines_of) c.in_ok-push-in-Some.ensures.items ∙ map-append lines_of c.args.all.now.items _
    ∙ ap (λ lines. old ++ lines ∷ []) c.in_ok-join_body-in-Some.ensures
    ∙ ap (λ o. old ++ with_body (nodes_of c.args.body.now) o) c.in-Some.ensures

pub returns-in-None : goal.returns-in-None
returns-in-None c = rw (sym c.in-None.ensures) (search rules)
