use Rattle.std.proofs.Common.{subst, false}
use Rattle.statement_forms.specs.LineForms.{FrontIs}
use Rattle.statement_forms.proofs.Drawn.{not_drawing}
use Rattle.statement_forms.proofs.forms.drawing.Goals as goal

pub returns-then-not-found : goal.returns-then-not-found
returns-then-not-found c = λ x q.
    let none = subst (λ b. FrontIs c.split_at.result.0.now b) c.if-not-found.true c.in_ok-found.ensures in
    not_drawing c.args.tokens.now c.in-Some.len c.in-Some.ensures (subst (λ z. FrontIs z false) c.split_at.ensures.front none) q.0 q.1
