use Rattle.std.proofs.Common.{sym}
use Rattle.vb_lines.proofs.Heads.{no_longer, dropped_head}
use Rattle.vb_lines.proofs.module.head_length.Goals as goal

pub overflow_sub-result : goal.overflow_sub-result
overflow_sub-result c = no_longer c.args.class c.args.lines.now c.in-Ended.body.now (sym c.in-Ended.ensures)

pub returns-in-Ended-clause-ended : goal.returns-in-Ended-clause-ended
returns-in-Ended-clause-ended c = dropped_head c.args.class c.args.lines.now c.in-Ended.body.now (sym c.in-Ended.ensures)
