use Rattle.std.proofs.Common.{◌≡◌, ◌++◌, map, drop}
use Rattle.vb_tree.specs.View as source
use Rattle.net_tree.specs.View.{line_of}
use Rattle.written_trees.specs.Bodies.{body_from}
use Rattle.written_lines.specs.View.{shown_labels}
use Rattle.written_members.specs.View.{code_of, scope_at}
use Rattle.written_members.proofs.bodies.body.Given as goal

abbrev pub invariant-loop-line : goal.invariant-loop-line
invariant-loop-line l =
    map line_of l.all.items ++ body_from (scope_at l.site) (shown_labels l.labels) l.rest l.n l.k (map (λ r. source.line_of r.now) (drop l.line-index l.lines)) (map code_of l.coming)
    ≡ body_from (scope_at l.site) (shown_labels l.labels) l.comments l.number 0 (map (λ r. source.line_of r.now) l.lines) (map code_of l.code)
