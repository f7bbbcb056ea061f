use Rattle.std.proofs.Common.{codes, map}
use Rattle.net_tree.specs.Spelling.{name_text}
use Rattle.net_emitter.proofs.Emitting.{separated_turn, below_map, at_map}
use Rattle.net_emitter.proofs.names.write_own_path.Goals as goal

pub loop-i-preserved : goal.loop-i-preserved
loop-i-preserved c =
    let xs = c.args.names.now in
    let i = c.loop-i.i in
    let x = c.index-names-i.result in
    separated_turn (codes ".") (map name_text xs) i (name_text x) c.args.out.now c.loop-i.out c.write_separator.new.out _ (below_map name_text xs i c.loop-i-test.true) (at_map name_text xs i x c.index-names-i.is) c.loop-i.invariant c.in_ok-write_separator.ensures c.in_ok-write_name.ensures
