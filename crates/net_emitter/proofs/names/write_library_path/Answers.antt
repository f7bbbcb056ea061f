use Rattle.std.proofs.Common.{codes}
use Rattle.net_emitter.proofs.Emitting.{separated_turn}
use Rattle.net_emitter.proofs.names.write_library_path.Goals as goal

pub loop-i-preserved : goal.loop-i-preserved
loop-i-preserved c =
    separated_turn (codes ".") c.args.names.now c.loop-i.i c.index-names-i.result c.args.out.now c.loop-i.out c.write_separator.new.out _ c.loop-i-test.true c.index-names-i.is c.loop-i.invariant c.in_ok-write_separator.ensures (cc (c.in_ok-extend_from_slice.ensures.ok, c.as_bytes.ensures.bytes))
