use Rattle.std.proofs.Common.{rules, sym, ap, ◌∙◌, map, ◌++◌}
use Rattle.std.proofs.lemmas.List.{map-append}
use Rattle.vb_tree.specs.View.{line_of}
use Rattle.bound_tree.specs.View.{shown_line, with_bindings}
use Rattle.bound_tree.proofs.lines.push_line.Goals as goal

pub returns-in_ok-push-in-Some : goal.returns-in_ok-push-in-Some
returns-in_ok-push-in-Some c =
    ap (map shown_line) c.in_ok-push-in-Some.ensures.items ∙ map-append shown_line c.args.all.now.items _
    ∙ ap (λ o. map shown_line c.args.all.now.items ++ with_bindings (line_of c.args.source.now) o) c.in-Some.ensures

pub returns-in-None : goal.returns-in-None
returns-in-None c = rw (sym c.in-None.ensures) (search rules)
