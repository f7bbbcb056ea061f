use Rattle.std.proofs.Common.{ap, ◌∙◌}
use Rattle.vb_tree.specs.Tree.{block}
use Rattle.vb_tree.specs.View.{line_of, nodes_of, middles_of, block_in}
use Rattle.vb_lines.proofs.Rows.{rolled_block}
use Rattle.vb_lines.proofs.frame.Frame.close.Goals as goal

pub returns : goal.returns
returns c =
    let f = c.args.self in
    ap block_in c.in_ok-new.ensures.ok
    ∙ rolled_block f.head c.args.close c.shrink_to_fit.new.self c.in_ok-middles.middles
    ∙ ap (λ body. block (line_of f.head) (nodes_of body) (middles_of c.in_ok-middles.middles.items) (line_of c.args.close)) c.shrink_to_fit.ensures.items
    ∙ ap (λ m. block (line_of f.head) (nodes_of f.body.items) m (line_of c.args.close)) c.in_ok-middles.ensures
