use Rattle.std.proofs.Common.{codes, map}
use Rattle.net_tree.specs.View.{case_item_of}
use Rattle.net_tree.specs.Lines.{case_item_text}
use Rattle.net_emitter.proofs.Emitting.{separated_turn, below_map, at_map}
use Rattle.net_emitter.proofs.lines.write_case.Goals as goal

pub loop-i-preserved : goal.loop-i-preserved
loop-i-preserved c =
    let xs = c.args.items.now in
    let i = c.loop-i.i in
    let x = c.index-items-i.result in
    separated_turn (codes ", ") (map case_item_text (map case_item_of xs)) i (case_item_text (case_item_of x)) c.extend_from_slice.new.self c.loop-i.out c.write_separator.new.out _ (below_map case_item_text (map case_item_of xs) i (below_map case_item_of xs i c.loop-i-test.true)) (at_map case_item_text (map case_item_of xs) i (case_item_of x) (at_map case_item_of xs i x c.index-items-i.is)) c.loop-i.invariant c.in_ok-write_separator.ensures c.in_ok-write_case_item.ensures
