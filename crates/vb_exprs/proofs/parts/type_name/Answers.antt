use Rattle.std.proofs.Common.{◌∙◌}
use Rattle.vb_exprs.proofs.Types.{type_single}
use Rattle.vb_exprs.proofs.parts.type_name.Goals as goal

pub returns-clause-given : goal.returns-clause-given
returns-clause-given c = λ ty rest s h k.
    let n = c.in-Some.ensures in
    let short = rw c.in_default-2.is at c.in_ok-name.ensures in
    let r = type_single ty _ rest _ n.0 _ n.1 n.2 short s h in
    (c.in_ok-copy.ensures ∙ r.0, r.1)
