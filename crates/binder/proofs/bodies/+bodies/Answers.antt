use Rattle.std.proofs.Common.{◌∙◌}
use Rattle.expression_words.specs.View.{kept_of}
use Rattle.binder.specs.View.{inside_of}
use Rattle.binder.proofs.BoundBlocks.{block_bound, middle_step}
use Rattle.binder.proofs.bodies.+bodies.Goals as goal

pub push_block-returns : goal.push_block-returns
push_block-returns t c =
    block_bound (inside_of c.args.inside) (kept_of c.args.kept.now) (kept_of c.kept_or-inner.result.now) c.in_ok-cases.cases c.args.block.now c.deref-form.result.now c.len-n.result
    c.deref.result.now c.deref-3.result.now c.deref-2.result.now c.deref-4.result.now
    c.args.to.now c.push_line.new.to c.push_nodes.new.to c.push_middles.new.to c.push_line-2.new.to
    c.len-n.ensures c.deref-form.ensures c.deref.ensures.value c.deref-2.ensures.value c.deref-3.ensures.value c.deref-4.ensures.value
    c.in_ok-cases.ensures (c.kept_or-inner.ensures ∙ c.in_ok-own.ensures)
    c.in_ok-push_line.ensures c.in_ok-push_nodes.ensures c.in_ok-push_middles.ensures c.in_ok-push_line-2.ensures

pub push_middles-loop-middle-preserved : goal.push_middles-loop-middle-preserved
push_middles-loop-middle-preserved t c =
    middle_step (inside_of c.args.inside) (kept_of c.args.kept.now) c.args.cases c.args.middles.now c.loop-middle.middle-index c.middle-item.result c.deref.result.now
    c.loop-middle.to c.push_line.new.to c.push_nodes.new.to _
    c.loop-middle-test.true c.middle-item.is c.deref.ensures.value c.in_ok-push_line.ensures c.in_ok-push_nodes.ensures c.loop-middle.invariant
