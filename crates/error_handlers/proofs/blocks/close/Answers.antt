use Rattle.std.proofs.Common.{ap, ◌∙◌, arith}
use Rattle.std.specs.Prelude.{reverse}
use Rattle.error_handlers.proofs.Laws.{popped}
use Rattle.error_handlers.proofs.blocks.close.Goals as goal

pub returns : goal.returns
returns c = ap reverse c.pop.ensures.rest ∙ popped c.args.heads.now.items _ (omega (arith, c.args.heads.now.ok.0))
