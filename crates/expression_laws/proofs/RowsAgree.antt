-- Rows on operands that agree.
use Rattle.std.proofs.Common.{◌≡◌, refl, sym, subst, ℕ, Bool, true, []}
use Rattle.vb_tree.specs.BoundTree.{Ty}
use Rattle.vb_tree.specs.declared.value.Value6.{Value6}
use Rattle.vb6_meaning.specs.Answers.{Answer}
use Rattle.net_tree.specs.Tree.{Exp}
use Rattle.net_meaning.specs.declared.value.ValueN.{ValueN}
use Rattle.net_meaning.specs.SameValues as values
use Rattle.net_meaning.specs.ValueMatch.{Matches}
use Rattle.run_base.specs.Outcomes.{Outcome, after, then, answered}
use Rattle.vb6_run.specs.Expressions as source
use Rattle.vb6_run.specs.Expressions.{at_address}
use Rattle.vb6_run.specs.Store.{Memory, constant}
use Rattle.vb6_run.specs.Values.{scalar}
use Rattle.net_run.specs.Expressions as target
use Rattle.net_run.specs.Making.{Jobs}
use Rattle.net_run.specs.Names.{Scope}
use Rattle.net_run.specs.Values as net_value
use Rattle.run_matches.specs.Agreeing.{Agrees}
use Rattle.run_matches.specs.Likeness.{LikeV, like_scalar, are_same}
use Rattle.run_matches.specs.Maps.{World}
use Rattle.run_matches.specs.Match.{MemoryMatch}
use Rattle.run_matches.specs.Pledges.{Pledge, Later}
use Rattle.run_matches.specs.Upgrades.{Upgrade}
use Rattle.run_statements.specs.Frames.{PlainMatch}
use Rattle.agreeing_laws.proofs.Agreeing.{agrees_gives, then_agrees, answered_agrees}
use Rattle.agreeing_laws.proofs.Lasting.{later_then}
use Rattle.agreeing_laws.proofs.Scalars.{matches_more, same_later}
use Rattle.row_laws.proofs.Composing.{after_nil}
use Rattle.row_laws.specs.Follows.{single_value, answers, on_three_values, Any, Follows, RowOfOne, RowOfTwo}
use Rattle.row_laws.specs.Rows.{IsOf}
use Rattle.expression_laws.proofs.Checks.{TermMatch}

-- rows are told of with any test of objects
abbrev pub any_same : ℕ → ℕ → Bool
any_same i j = true

-- a scalar that matches at a world
abbrev pub At : World → Ty → Value6 → ValueN → Type 0
At w s z x = Matches (are_same w) s z x

module _ (U : Upgrade) (K : Pledge) where
  -- an answer, as the value of a term
  pub answer_agrees : (w : World) (s : Ty) (a : Answer Value6) (b : Answer ValueN) → MemoryMatch U w → values.Agrees (At w s) a b
      → Agrees U K w (TermMatch U s) (source.answer_as s a w.src) (answers b w.net)
  answer_agrees w s a b start h =
      then_agrees U K w (λ v. At v s) (TermMatch U s) (answered a w.src) (answered b w.net) (λ z v. source.value_parts (scalar s z) v) single_value start
      (answered_agrees U K w (λ v. At v s) a b start h)
      (λ z x v m l. agrees_gives U K v (TermMatch U s) (at_address (constant (scalar s z))) (net_value.single x) l.match (z, refl, like_scalar s z x m))

module _ (U : Upgrade) (K : Pledge) (S : Scope) (oracle : Jobs) where
  -- a row on the value of one operand
  pub one_agrees : (s t : Ty) (f : Value6 → Answer Value6) (row : ValueN → Answer ValueN) (whole first : Exp) (r : Outcome Memory Value6) (w : World)
      → RowOfOne S oracle Any whole first row → ((v : World) (z : Value6) (x : ValueN) → At v s z x → values.Agrees (At v t) (f z) (row x)) → MemoryMatch U w
      → Agrees U K w (PlainMatch U s) r (target.value_of S oracle first w.net)
      → Agrees U K w (TermMatch U t) (then r (λ z v. source.answer_as t (f z) v)) (target.value_of S oracle whole w.net)
  one_agrees s t f row whole first r w h law start operand =
      subst (λ q. Agrees U K w (TermMatch U t) (then r (λ z v. source.answer_as t (f z) v)) q) (sym (h.is w.net))
      (then_agrees U K w (PlainMatch U s) (TermMatch U t) r (target.value_of S oracle first w.net) (λ z v. source.answer_as t (f z) v) h.behind start operand
      (λ z y v like l. behind z y v like l.match))
    where
      behind : (z : Value6) (y : net_value.Value) (v : World) → LikeV U v (scalar s z) y → MemoryMatch U v
          → Agrees U K v (TermMatch U t) (source.answer_as t (f z) v.src) (h.behind y v.net)
      behind _ _ v (like_scalar _ z x m) start =
          subst (λ q. Agrees U K v (TermMatch U t) (source.answer_as t (f z) v.src) q) (sym (h.on_single x v.net tt))
          (answer_agrees U K v t (f z) (row x) start (law v z x m))

  -- a row on the values of two, which may ask that the memories match
  pub both_agree : (s s' t : Ty) (f : Value6 → Value6 → Answer Value6) (row : ValueN → ValueN → Answer ValueN) (whole first second : Exp)
      (r : Outcome Memory Value6) (r' : Memory → Outcome Memory Value6) (w : World) → RowOfTwo S oracle (IsOf any_same s) whole first second row
      → ((v : World) → MemoryMatch U v → (z z' : Value6) (x x' : ValueN) → At v s z x → At v s' z' x' → values.Agrees (At v t) (f z z') (row x x'))
      → MemoryMatch U w → Agrees U K w (PlainMatch U s) r (target.value_of S oracle first w.net)
      → ((v : World) → Later U K w v → Agrees U K v (PlainMatch U s') (r' v.src) (target.value_of S oracle second v.net))
      → Agrees U K w (TermMatch U t) (then r (λ z v. then (r' v) (λ z' u. source.answer_as t (f z z') u))) (target.value_of S oracle whole w.net)
  both_agree s s' t f row whole first second r r' w h law start operand other =
      subst (λ q. Agrees U K w (TermMatch U t) (then r (λ z v. then (r' v) (λ z' u. source.answer_as t (f z z') u))) q) (sym (h.is w.net))
      (then_agrees U K w (PlainMatch U s) (TermMatch U t) r (target.value_of S oracle first w.net)
      (λ z v. then (r' v) (λ z' u. source.answer_as t (f z z') u)) h.behind start operand (λ z y v like l. behind z y v like l))
    where
      last : (z z' : Value6) (x : ValueN) (y : net_value.Value) (v u : World)
          (g : Follows Any (h.behind (net_value.single x)) (target.value_of S oracle second) (λ x'. answers (row x x')))
          → At v s z x → Later U K v u → LikeV U u (scalar s' z') y
          → Agrees U K u (TermMatch U t) (source.answer_as t (f z z') u.src) (g.behind y u.net)
      last z _ x _ v u g m l (like_scalar _ z' x' m') =
          let now : At u s z x = matches_more (are_same v) (are_same u) (same_later v u l.extends l.grows) s z x m in
          subst (λ q. Agrees U K u (TermMatch U t) (source.answer_as t (f z z') u.src) q) (sym (g.on_single x' u.net tt))
          (answer_agrees U K u t (f z z') (row x x') l.match (law u l.match z z' x x' now m'))

      behind : (z : Value6) (y : net_value.Value) (v : World) → LikeV U v (scalar s z) y → Later U K w v
          → Agrees U K v (TermMatch U t) (then (r' v.src) (λ z' u. source.answer_as t (f z z') u)) (h.behind y v.net)
      behind _ _ v (like_scalar _ z x m) l =
          let g : Follows Any (h.behind (net_value.single x)) (target.value_of S oracle second) (λ x'. answers (row x x')) =
          h.second x (z, matches_more (are_same v) any_same (λ i j e. refl) s z x m) in
          subst (λ q. Agrees U K v (TermMatch U t) (then (r' v.src) (λ z' u. source.answer_as t (f z z') u)) q) (sym (g.is v.net))
          (then_agrees U K v (PlainMatch U s') (TermMatch U t) (r' v.src) (target.value_of S oracle second v.net) (λ z' u. source.answer_as t (f z z') u)
          g.behind l.match (other v l) (λ z' y u like l'. last z z' x y v u g m l' like))

  pub two_agree : (s s' t : Ty) (f : Value6 → Value6 → Answer Value6) (row : ValueN → ValueN → Answer ValueN) (whole first second : Exp)
      (r : Outcome Memory Value6) (r' : Memory → Outcome Memory Value6) (w : World) → RowOfTwo S oracle (IsOf any_same s) whole first second row
      → ((v : World) (z z' : Value6) (x x' : ValueN) → At v s z x → At v s' z' x' → values.Agrees (At v t) (f z z') (row x x')) → MemoryMatch U w
      → Agrees U K w (PlainMatch U s) r (target.value_of S oracle first w.net)
      → ((v : World) → Later U K w v → Agrees U K v (PlainMatch U s') (r' v.src) (target.value_of S oracle second v.net))
      → Agrees U K w (TermMatch U t) (then r (λ z v. after [] (then (r' v) (λ z' u. source.answer_as t (f z z') u)))) (target.value_of S oracle whole w.net)
  two_agree s s' t f row whole first second r r' w h law start operand other =
      subst (λ k. Agrees U K w (TermMatch U t) (then r k) (target.value_of S oracle whole w.net))
      (λ i z v. sym (after_nil (then (r' v) (λ z' u. source.answer_as t (f z z') u))) i)
      (both_agree s s' t f row whole first second r r' w h (λ v m z z' x x' like like'. law v z z' x x' like like') start operand other)

  -- a row on the values of three, by its equation
  pub three_agree : (s s' s'' t : Ty) (f : Value6 → Value6 → Value6 → Answer Value6) (row : ValueN → ValueN → ValueN → Answer ValueN) (whole first second third : Exp)
      (r : Outcome Memory Value6) (r' r'' : Memory → Outcome Memory Value6) (w : World)
      → (target.value_of S oracle whole w.net
      ≡ then (target.value_of S oracle first w.net) (λ x v. then (target.value_of S oracle second v) (λ y u. then (target.value_of S oracle third u) (on_three_values row x y))))
      → ((v : World) (z z' z'' : Value6) (x x' x'' : ValueN) → At v s z x → At v s' z' x' → At v s'' z'' x'' → values.Agrees (At v t) (f z z' z'') (row x x' x''))
      → MemoryMatch U w → Agrees U K w (PlainMatch U s) r (target.value_of S oracle first w.net)
      → ((v : World) → Later U K w v → Agrees U K v (PlainMatch U s') (r' v.src) (target.value_of S oracle second v.net))
      → ((v : World) → Later U K w v → Agrees U K v (PlainMatch U s'') (r'' v.src) (target.value_of S oracle third v.net))
      → Agrees U K w (TermMatch U t) (then r (λ z v. then (r' v) (λ z' u. then (r'' u) (λ z'' q. source.answer_as t (f z z' z'') q)))) (target.value_of S oracle whole w.net)
  three_agree s s' s'' t f row whole first second third r r' r'' w is law start operand second_agrees third_agrees =
      subst (λ q. Agrees U K w (TermMatch U t) (then r (λ z v. then (r' v) (λ z' u. then (r'' u) (λ z'' q. source.answer_as t (f z z' z'') q)))) q) (sym is)
      (then_agrees U K w (PlainMatch U s) (TermMatch U t) r (target.value_of S oracle first w.net)
      (λ z v. then (r' v) (λ z' u. then (r'' u) (λ z'' q. source.answer_as t (f z z' z'') q)))
      (λ x v. then (target.value_of S oracle second v) (λ y u. then (target.value_of S oracle third u) (on_three_values row x y))) start operand
      (λ z x v like l.
      then_agrees U K v (PlainMatch U s') (TermMatch U t) (r' v.src) (target.value_of S oracle second v.net)
      (λ z' u. then (r'' u) (λ z'' q. source.answer_as t (f z z' z'') q)) (λ y u. then (target.value_of S oracle third u) (on_three_values row x y)) l.match
      (second_agrees v l)
      (λ z' y u like' l'.
      then_agrees U K u (PlainMatch U s'') (TermMatch U t) (r'' u.src) (target.value_of S oracle third u.net) (λ z'' q. source.answer_as t (f z z' z'') q)
      (on_three_values row x y) l'.match (third_agrees u (later_then U K w v u start l l'))
      (λ z'' y' q like'' l''. behind z z' z'' x y y' v u q like like' like'' l' l''))))
    where
      behind : (z z' z'' : Value6) (x y y' : net_value.Value) (v u q : World) → LikeV U v (scalar s z) x → LikeV U u (scalar s' z') y
          → LikeV U q (scalar s'' z'') y' → Later U K v u → Later U K u q
          → Agrees U K q (TermMatch U t) (source.answer_as t (f z z' z'') q.src) (on_three_values row x y y' q.net)
      behind _ _ _ _ _ _ v u q (like_scalar _ z x m) (like_scalar _ z' x' m') (like_scalar _ z'' x'' m'') l l' =
          let before : At u s z x = matches_more (are_same v) (are_same u) (same_later v u l.extends l.grows) s z x m in
          let now : At q s z x = matches_more (are_same u) (are_same q) (same_later u q l'.extends l'.grows) s z x before in
          let second : At q s' z' x' = matches_more (are_same u) (are_same q) (same_later u q l'.extends l'.grows) s' z' x' m' in
          answer_agrees U K q t (f z z' z'') (row x x' x'') l'.match (law q z z' z'' x x' x'' now second m'')
