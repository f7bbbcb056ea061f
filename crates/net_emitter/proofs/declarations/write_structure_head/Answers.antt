use Rattle.std.proofs.Common.{codes, replicate}
use Rattle.std.proofs.lemmas.Result.{on_ok_weaker}
use Rattle.up_base.specs.LineEnd.{line_end}
use Rattle.net_tree.specs.Spelling.{name_text}
use Rattle.net_emitter.proofs.Emitting.{line_of_two}
use Rattle.net_emitter.proofs.declarations.write_structure_head.Goals as goal

pub returns : goal.returns
returns c =
    on_ok_weaker c.end_line.result (line_of_two c.args.out.now (replicate 4 32) (codes "Public Structure ") (name_text c.args.name.now) line_end c.begin_line.new.out c.extend_from_slice.new.self c.write_name.new.out c.end_line.new.out c.in_ok-begin_line.ensures c.in_ok-extend_from_slice.ensures.ok c.in_ok-write_name.ensures) c.end_line.ensures
