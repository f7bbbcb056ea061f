use Rattle.std.proofs.Common.{codes, subst}
use Rattle.vb_tree.specs.Tree.{assign}
use Rattle.statement_forms.specs.Fronts.{past_word}
use Rattle.statement_forms.specs.LineForms.{AreSides, pair_depth}
use Rattle.statement_forms.specs.Answer.{pair_of}
use Rattle.statement_forms.proofs.Making.{made_answers}
use Rattle.statement_forms.proofs.forms.assignment.Goals as goal

pub returns-in_ok-assigned-in-Ok : goal.returns-in_ok-assigned-in-Ok
returns-in_ok-assigned-in-Ok c =
    made_answers pair_of (AreSides (past_word (codes "let") c.args.tokens.now)) (λ x. assign x.0 x.1) pair_depth c.in-Ok.sides c.in_ok-assigned-in-Ok.field-0 (subst (λ z. AreSides z (pair_of c.in-Ok.sides)) c.past_word.ensures c.in-Ok.ensures.0, c.in-Ok.ensures.1) c.in_ok-assigned-in-Ok.ensures
