use Rattle.std.proofs.lemmas.Result.{on_ok_weaker}
use Rattle.net_emitter.proofs.Emitting.{five_pieces}
use Rattle.net_emitter.proofs.files.write_response.Goals as goal

pub returns : goal.returns
returns c =
    on_ok_weaker c.write_sources.result (five_pieces c.args.out.now _ _ _ _ _ _ _ _ _ _ c.in_ok-write_target.ensures c.in_ok-write_main.ensures c.in_ok-write_line.ensures c.in_ok-write_line-2.ensures) c.write_sources.ensures
