use Rattle.std.proofs.Common.{◌≡◌, ℕ, ◌+◌, List, ◌∷◌, ◌++◌, length, map, ap, sym, ◌∙◌, arith}
use Rattle.std.specs.Prelude.{Option, option_map, slice_get}
use Rattle.std.proofs.lemmas.List.{append_assoc}
use Rattle.bound_tree.specs.Tree.{Expr}
use Rattle.expression_words.specs.declared.typed.Typed.{Typed}
use Rattle.expression_words.specs.Meanings.{Scope}
use Rattle.expression_words.specs.View.{scope_of, typed_of}
use Rattle.binder.specs.Lines.{settled_at, settled_from}
use Rattle.binder.specs.Parts.{Part}
use Rattle.binder.specs.View.{part_of}
use Rattle.binder.proofs.settling.settled_all.Goals as goal

one_settled : (S : Scope) (ps : List Part) (i : ℕ) (o : Option Part) (t : Typed) (rest all : List Typed) (before after whole : List Expr) → o ≡ slice_get ps i
    → after ≡ before ++ settled_at S o (typed_of t)
    → all ≡ t ∷ rest
    → before ++ settled_from S ps i (map typed_of all) ≡ whole
    → after ++ settled_from S ps (i + 1) (map typed_of rest) ≡ whole
one_settled S ps i o t rest all before after whole here made next h =
    ap (λ (xs : List Expr). xs ++ settled_from S ps (i + 1) (map typed_of rest)) (made ∙ ap (λ (p : Option Part). before ++ settled_at S p (typed_of t)) here)
    ∙ append_assoc before (settled_at S (slice_get ps i) (typed_of t)) (settled_from S ps (i + 1) (map typed_of rest))
    ∙ ap (λ (xs : List Typed). before ++ settled_from S ps i (map typed_of xs)) (sym next)
    ∙ h

pub loop-t-preserved : goal.loop-t-preserved
loop-t-preserved c = record {
  counted = omega (arith, ap length c.in-Some.ensures.steps.0, c.loop-t.invariant.counted);
  exprs =
      one_settled (scope_of c.args.scope) (map part_of c.args.parts.now) c.loop-t.i (option_map (λ p. part_of p.now) c.part_at.result) c.in-Some.t c.next.new.self.rest.items
      c.loop-t.t-iterator.rest.items _ _ _ c.part_at.ensures c.in_ok-push_settled.ensures c.in-Some.ensures.steps.0 c.loop-t.invariant.exprs;
}
