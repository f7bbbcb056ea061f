use Rattle.form_parts.proofs.Joining.{goto_joint, gosub_joint}
use Rattle.statement_forms.proofs.Sharing.{no_jump}
use Rattle.statement_forms.proofs.printing.jump_front.Goals as goal

pub before_word-requires : goal.before_word-requires
before_word-requires c = goto_joint

pub before_word-requires-2 : goal.before_word-requires-2
before_word-requires-2 c = gosub_joint

pub returns-in-None-call : goal.returns-in-None-call
returns-in-None-call c = no_jump c.args.tokens.now (rw c.in-None.is at c.in_ok-jump.ensures) (rw c.in-None-call.is at c.in_ok-call.ensures)
