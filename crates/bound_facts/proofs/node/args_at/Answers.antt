use Rattle.std.proofs.Common.{sym, ap, ◌∙◌}
use Rattle.bound_tree.specs.View.{passed_of, term_of}
use Rattle.bound_tree.proofs.Views.{call_shown}
use Rattle.bound_facts.specs.Node.{args_in}
use Rattle.bound_facts.proofs.node.args_at.Goals as goal

pub returns-in-Call : goal.returns-in-Call
returns-in-Call c = ap passed_of c.deref.ensures.value ∙ ap args_in (sym (ap term_of c.in-Call.is ∙ call_shown _ _ _ c.in-Call.args))
