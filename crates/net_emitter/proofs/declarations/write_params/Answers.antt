use Rattle.std.proofs.Common.{codes, map}
use Rattle.net_tree.specs.View.{param_of}
use Rattle.net_tree.specs.Declarations.{param_text}
use Rattle.net_emitter.proofs.Emitting.{separated_turn, below_map, at_map}
use Rattle.net_emitter.proofs.declarations.write_params.Goals as goal

pub loop-i-preserved : goal.loop-i-preserved
loop-i-preserved c =
    let xs = c.args.params.now in
    let i = c.loop-i.i in
    let x = c.index-params-i.result in
    separated_turn (codes ", ") (map param_text (map param_of xs)) i (param_text (param_of x)) c.push.new.self c.loop-i.out c.write_separator.new.out _ (below_map param_text (map param_of xs) i (below_map param_of xs i c.loop-i-test.true)) (at_map param_text (map param_of xs) i (param_of x) (at_map param_of xs i x c.index-params-i.is)) c.loop-i.invariant c.in_ok-write_separator.ensures c.in_ok-write_param.ensures
