-- Bounds: one expression, or two with To between them.
use Rattle.std.proofs.Common.{max, List, sym, subst, arith, Option, Some, None, codes}
use Rattle.vb_tree.specs.declared.token.Token.{Token}
use Rattle.vb_tree.specs.Tree.{Exp}
use Rattle.vb_tree.specs.Expressions.{IsExpression, depth_of}
use Rattle.form_parts.specs.declared.answer.PartFail.{PartFail}
use Rattle.form_parts.specs.Answer.{FailsFor}
use Rattle.form_parts.specs.Parts.{IsJoined, IsBounds, IsBoundsFrom, bounds_depth}
use Rattle.form_parts.proofs.Answering.{fails_along}
use Rattle.form_parts.proofs.Joining.{one_joined, joined_not_whole, to_joint}

module _ (tokens : List Token) where
  pair_of : (before after : List Token) → IsJoined (codes "to") tokens before after → (l : Option Exp) (u : Exp) → IsBoundsFrom tokens l u → (p : Exp × Exp) × (IsExpression before p.0 × IsExpression after p.1)
  pair_of before after j None u q = absurd (joined_not_whole (codes "to") tokens before after to_joint j u q)
  pair_of before after j (Some l) u q =
      let same = one_joined (codes "to") tokens before after q.0 q.1 to_joint j q.2 in
      ((l, u), (subst (λ x. IsExpression x l) (sym same.0) q.3, subst (λ x. IsExpression x u) (sym same.1) q.4))

  pub two_bounds_fail : (before after : List Token) → IsJoined (codes "to") tokens before after → (f : PartFail) → FailsFor (λ (p : Exp × Exp). IsExpression before p.0 × IsExpression after p.1) (λ p. max (depth_of p.0) (depth_of p.1)) f → FailsFor (IsBounds tokens) bounds_depth f
  two_bounds_fail before after j =
      fails_along (λ (p : Exp × Exp). IsExpression before p.0 × IsExpression after p.1) (λ p. max (depth_of p.0) (depth_of p.1)) (IsBounds tokens) bounds_depth
      (λ p h. (record { lower = Some p.0; upper = p.1 }, (before, after, j, h.0, h.1), omega arith))
      (λ b q. pair_of before after j b.lower b.upper q)

  upper_of : ((before after : List Token) → IsJoined (codes "to") tokens before after → ⊥) → (l : Option Exp) (u : Exp) → IsBoundsFrom tokens l u → (x : Exp) × IsExpression tokens x
  upper_of none None u q = (u, q)
  upper_of none (Some l) u q = absurd (none q.0 q.1 q.2)

  pub one_bound_fails : ((before after : List Token) → IsJoined (codes "to") tokens before after → ⊥) → (f : PartFail) → FailsFor (IsExpression tokens) depth_of f → FailsFor (IsBounds tokens) bounds_depth f
  one_bound_fails none =
      fails_along (IsExpression tokens) depth_of (IsBounds tokens) bounds_depth
      (λ x h. (record { lower = None; upper = x }, h, omega arith))
      (λ b q. upper_of none b.lower b.upper q)
