use Rattle.std.proofs.Common.{codes, map}
use Rattle.net_tree.specs.View.{redim_item_of}
use Rattle.net_tree.specs.Lines.{redim_item_text}
use Rattle.net_emitter.proofs.Emitting.{separated_turn, below_map, at_map}
use Rattle.net_emitter.proofs.lines.write_redim_items.Goals as goal

pub loop-i-preserved : goal.loop-i-preserved
loop-i-preserved c =
    let xs = c.args.items.now in
    let i = c.loop-i.i in
    let x = c.index-items-i.result in
    separated_turn (codes ", ") (map redim_item_text (map redim_item_of xs)) i (redim_item_text (redim_item_of x)) c.args.out.now c.loop-i.out c.write_separator.new.out _ (below_map redim_item_text (map redim_item_of xs) i (below_map redim_item_of xs i c.loop-i-test.true)) (at_map redim_item_text (map redim_item_of xs) i (redim_item_of x) (at_map redim_item_of xs i x c.index-items-i.is)) c.loop-i.invariant c.in_ok-write_separator.ensures c.in_ok-write_redim_item.ensures
