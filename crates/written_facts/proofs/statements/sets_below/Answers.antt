use Rattle.std.proofs.Common.{◌∙◌}
use Rattle.written_facts.proofs.Numbered.{one_more}
use Rattle.written_facts.proofs.statements.sets_below.Goals as goal

pub loop-file-preserved : goal.loop-file-preserved
loop-file-preserved c = one_more _ c.loop-file.file _ _ _ c.in_ok-push.ensures.items c.loop-file.invariant (c.from_vec.ensures ∙ c.in_ok-file_sets.ensures)
