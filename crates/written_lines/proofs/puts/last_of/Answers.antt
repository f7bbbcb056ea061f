use Rattle.std.proofs.Common.{take, get_or, sym, ap, ◌∙◌}
use Rattle.std.proofs.lemmas.List.{take_more}
use Rattle.vb_tree.specs.declared.declared.VarId.{VarId}
use Rattle.written_trees.specs.Puts.{last_of}
use Rattle.written_lines.proofs.Lasts.{last_is}
use Rattle.written_lines.proofs.puts.last_of.Goals as goal

pub loop-v-preserved : goal.loop-v-preserved
loop-v-preserved c =
    let vs = c.args.variables.now in
    let i = c.loop-v.v-index in
    let none : VarId = record { 0 = 0 } in
    sym (ap last_of (take_more vs i none c.loop-v-test.true) ∙ last_is (take i vs) (get_or vs i none))
