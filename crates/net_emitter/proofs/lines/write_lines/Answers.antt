use Rattle.std.proofs.Common.{arith}
use Rattle.net_tree.specs.View.{line_of}
use Rattle.net_tree.specs.Blocks.{role_of}
use Rattle.net_emitter.proofs.Depths.{line_turn, depth_turn, one_deeper}
use Rattle.net_emitter.proofs.lines.write_lines.Goals as goal

pub loop-line-preserved : goal.loop-line-preserved
loop-line-preserved c =
    let xs = c.args.lines.now in
    let i = c.loop-line.line-index in
    let x = c.line-item.result in
    let at = c.loop-line.at in (
      line_turn xs i x c.args.depth at c.args.out.now c.loop-line.out c.write_line_of.new.out c.loop-line-test.true c.line-item.is c.loop-line.invariant.0 c.loop-line.invariant.1 c.in_ok-at.ensures.text,
      depth_turn xs i x c.args.depth at c.in_ok-at.at c.loop-line-test.true c.line-item.is c.loop-line.invariant.1 c.in_ok-at.ensures.depth,
      omega (arith, c.loop-line.invariant.2, c.in_ok-at.ensures.depth, one_deeper (role_of (line_of x)) at),
    )
