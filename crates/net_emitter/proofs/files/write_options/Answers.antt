use Rattle.std.proofs.Common.{codes}
use Rattle.std.proofs.lemmas.Result.{on_ok_weaker}
use Rattle.net_tree.specs.Spelling.{at_depth}
use Rattle.net_emitter.proofs.Emitting.{three_pieces}
use Rattle.net_emitter.proofs.files.write_options.Goals as goal

pub returns : goal.returns
returns c =
    on_ok_weaker c.write_line-3.result (three_pieces c.args.out.now (at_depth 0 (codes "Option Explicit On")) (at_depth 0 (codes "Option Strict Off")) (at_depth 0 (codes "Option Compare Binary")) c.write_line.new.out c.write_line-2.new.out c.write_line-3.new.out c.in_ok-write_line.ensures c.in_ok-write_line-2.ensures) c.write_line-3.ensures
