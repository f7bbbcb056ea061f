use Rattle.std.proofs.Common.{List, ◌++◌, ◌+◌, map, drop, ap, sym, ◌∙◌}
use Rattle.std.specs.Borrow.{Bor}
use Rattle.vb_tree.specs.declared.form.CodeLine.{CodeLine}
use Rattle.vb_tree.specs.Tree.{Line}
use Rattle.vb_tree.specs.View.{line_of}
use Rattle.broken_rules.specs.Further.{plain_lines_issues}
use Rattle.broken_rules.proofs.PlainLines.{from_here}
use Rattle.broken_rules.proofs.further.push_plain_lines.Goals as goal

pub loop-line-preserved : goal.loop-line-preserved
loop-line-preserved c =
    c.in_ok-push_plain.ensures.step (map (λ (x : Bor CodeLine). line_of x.now) (drop (c.loop-line.line-index + 1) c.args.lines.now))
    ∙ ap (λ (ls : List Line). c.loop-line.to.items ++ plain_lines_issues c.args.name.now ls)
    (sym (from_here (λ (x : Bor CodeLine). line_of x.now) c.args.lines.now c.loop-line.line-index c.line-item.result c.loop-line-test.true c.line-item.is))
    ∙ c.loop-line.invariant
