-- A Next does the same as what is written for it.
use Rattle.std.proofs.Common.{◌≡◌, inl, refl, sym, ap, subst, ℕ, Bool, true, false, ◌&&◌, Option, Some, None, List, [], ◌∷◌, true≢false}
use Rattle.std.specs.List.{list_all}
use Rattle.vb_tree.specs.BoundTree.{Ty}
use Rattle.vb_tree.specs.declared.declared.VarId.{VarId}
use Rattle.vb_tree.specs.declared.token.Suffix.{Suffix}
use Rattle.vb_tree.specs.declared.value.Value6.{Value6}
use Rattle.vb_tree.specs.Tree.{Form}
use Rattle.vb_tree.specs.Tree as source_form
use Rattle.bound_tree.specs.Tree.{Expr, Line, typed, Term, variable}
use Rattle.bound_facts.proofs.Chains.{both_true}
use Rattle.run_base.specs.Frames.{Kept, keeps_nothing, keeps_limit, keeps_value, keeps_address}
use Rattle.run_base.specs.Machines.{nth_line}
use Rattle.run_base.specs.Outcomes.{Outcome, then, answered, some_of}
use Rattle.vb6_run.specs.Expressions as source
use Rattle.vb6_run.specs.Forms.{SourceLine}
use Rattle.vb6_run.specs.Lines as source_lines
use Rattle.vb6_run.specs.Lines.{goes_if, goes_on, next_of, sum_of}
use Rattle.vb6_run.specs.Shapes.{variable_shape}
use Rattle.vb6_run.specs.Store.{Address, Memory, SourceCalls, SourceFrame, read, write}
use Rattle.vb6_run.specs.Values.{Value, scalar}
use Rattle.net_run.specs.Blocks.{counted, counts_on}
use Rattle.net_run.specs.Expressions as target
use Rattle.net_run.specs.Lines.{NetFrame, NetLine, back_if, next_by, next_does}
use Rattle.net_run.specs.Store as net_store
use Rattle.net_run.specs.Values as net_value
use Rattle.run_matches.specs.Upgrades.{Upgrade}
use Rattle.run_matches.specs.Maps.{World}
use Rattle.run_matches.specs.Likeness.{LikeV}
use Rattle.run_matches.specs.Match.{MemoryMatch}
use Rattle.run_matches.specs.Pledges.{Pledge, Later}
use Rattle.run_matches.specs.Addresses.{KeptMatch, Same, both_nothing, both_limits, both_choices, both_objects, both_arrays, both_addresses, IsInPlace}
use Rattle.run_matches.specs.Agreeing.{Agrees}
use Rattle.run_matches.specs.Formed.{is_formed}
use Rattle.run_matches.specs.CoveredExprs.{Uses, covers_expr, covers_value, is_variable, uses_in}
use Rattle.run_matches.specs.CoveredLines.{counts_local, covers_counter, covers_form, covers_line, covers_part, covers_step, head_line, is_counter, is_local_term}
use Rattle.run_matches.specs.Frames.{CounterKept, FrameMatch, HasPlace, IsCounting, KeptBy, OwnsAll, is_exact_head, is_own_of, lines_of}
use Rattle.run_statements.specs.Frames.{AnyUnits, ScalarMatch, ScalarsAreRead, ScalarsAreWritten, context_of}
use Rattle.agreeing_laws.proofs.Agreeing.{agrees_outside, then_agrees}
use Rattle.agreeing_laws.proofs.Lasting.{later_now, later_then}
use Rattle.agreeing_laws.proofs.Moves.{address_later}
use Rattle.agreeing_laws.proofs.Outputs.{after_nothing}
use Rattle.agreeing_laws.proofs.Scalars.{scalar_later}
use Rattle.line_laws.specs.Lasting.{GoOnMatching}
use Rattle.line_laws.proofs.Counts.{counted_agrees, counter_covered, own_local, sum_agrees}

module _ (U : Upgrade) (reads : ScalarsAreRead U) (scalars : ScalarsAreWritten U) (K : Pledge) (p : ℕ) (f : SourceFrame) (g : NetFrame) (l : SourceLine)
    (k : NetLine) (oracle : SourceCalls) (R : World → SourceFrame → NetFrame → Type 0) (w : World) (h : MemoryMatch U w) (G : GoOnMatching U K p f g w)
    (owns : OwnsAll U K p f) (aims : k.aims ≡ l.aims) where
  abbrev D : source.Context
  D = context_of U oracle p f l

  module _ (ways : (w1 : World) → Later U K w w1
      → Agrees U K w1 R (goes_if D l.aims.back w1.src) (back_if g k true w1.net) × Agrees U K w1 R (goes_on D w1.src) (back_if g k false w1.net)) where
    module _ (ty : Ty) (counts : is_counter ty ≡ true) (v : ℕ) (own : is_own_of U p v ≡ true) (a : Address) (d : net_store.Address) (j s : Value6)
        (j' s' : net_value.Value) (kept : CounterKept f.vars ty v a (scalar ty j) (scalar ty s)) (same : Same U K w a d) (like_j : LikeV U w (scalar ty j) j')
        (like_s : LikeV U w (scalar ty s) s') where
      place_v : HasPlace U w v a
      place_v = (G w (later_now U K w h)).own v a kept.found own

      in_place : IsInPlace a
      in_place = record { place = place_v.place; shape = variable_shape U.program.declarations v; path = []; stands = place_v.stands }

      abbrev counted_on : Value → Memory → Outcome Memory SourceFrame
      counted_on x t = then (write f.env x a t) (λ u t. source_lines.counted D l.aims.back (Some l.aims.after) x (scalar ty j) (scalar ty s) t)

      abbrev net_counted_on : net_value.Value → net_store.Memory → Outcome net_store.Memory NetFrame
      net_counted_on x t =
          then (net_store.written d x t) (λ u t. then (answered (counts_on x j' s') t) (λ goes t. back_if g k goes t))

      counts_on_agrees : (w1 : World) → Later U K w w1 → (i : Value6) (i' : net_value.Value) → LikeV U w1 (scalar ty i) i'
          → Agrees U K w1 R (counted_on (scalar ty i) w1.src) (net_counted_on i' w1.net)
      counts_on_agrees w1 later i i' like =
          then_agrees U K w1 AnyUnits R (write f.env (scalar ty i) a w1.src) (net_store.written d i' w1.net)
          (λ u t. source_lines.counted D l.aims.back (Some l.aims.after) (scalar ty i) (scalar ty j) (scalar ty s) t)
          (λ u t. then (answered (counts_on i' j' s') t) (λ goes t. back_if g k goes t)) later.match
          (scalars K w1 a d f.env ty i i' (counter_covered ty counts) later.match (address_later U K w w1 a d later same) (kept.place.0, inl kept.place.1) (inl (inl in_place))
          (λ steady. owns.variables v a kept.found own) like)
          (λ u u' w2 m more.
          let all : Later U K w w2 = later_then U K w w1 w2 h later more in
          counted_agrees U K w2 more.match ty counts R D l.aims.back (Some l.aims.after) (λ goes t. back_if g k goes t) (ways w2 all).0 (ways w2 all).1 i j s i' j' s'
          (scalar_later U K w1 w2 ty i i' more like) (scalar_later U K w w2 ty j j' all like_j) (scalar_later U K w w2 ty s s' all like_s))

      counter_agrees : Agrees U K w R (next_of D (keeps_limit a (scalar ty j) (scalar ty s)) w.src) (next_by g k (keeps_limit d j' s') w.net)
      counter_agrees =
          let summed : net_value.Value → net_store.Memory → Outcome net_store.Memory NetFrame = λ x t. then (answered (counted x s') t) net_counted_on in
          let first : Value → Memory → Outcome Memory SourceFrame = λ x t. then (sum_of x (scalar ty s) t) counted_on in
          subst (λ r. Agrees U K w R (then (read a w.src) first) r) (after_nothing (next_by g k (keeps_limit d j' s') w.net))
          (then_agrees U K w (ScalarMatch U ty) R (read a w.src) (target.read d w.net) first summed h
          (reads K w a d ty (counter_covered ty counts) h same kept.place)
          (λ x x' w1 m later.
          subst (λ z. Agrees U K w1 R (first z w1.src) (summed x' w1.net)) (sym m.1)
          (then_agrees U K w1 (ScalarMatch U ty) R (sum_of (scalar ty m.0) (scalar ty s) w1.src) (answered (counted x' s') w1.net) counted_on net_counted_on later.match
          (sum_agrees U K w1 later.match ty counts m.0 s x' s' m.2 (scalar_later U K w w1 ty s s' later like_s))
          (λ y y' w2 n more.
          subst (λ z. Agrees U K w2 R (counted_on z w2.src) (net_counted_on y' w2.net)) (sym n.1)
          (counts_on_agrees w2 (later_then U K w w1 w2 h later more) n.0 y' n.2)))))

    -- what the head has kept
    next_by_kept : (exact : Bool) (ty : Ty) → is_counter ty ≡ true → (v : VarId) (qualified : Bool) (es : List Expr) → is_own_of U p v.0 ≡ true
        → (a : Kept Value Address) (d : Kept net_value.Value net_store.Address) → KeptMatch U K w exact a d → IsCounting f.vars (typed ty (variable v qualified) ∷ es) a
        → Agrees U K w R (next_of D a w.src) (next_by g k d w.net)
    next_by_kept exact ty counts v qualified es own _ _ both_nothing i = agrees_outside U K w R (next_by g k keeps_nothing w.net)
    next_by_kept exact ty counts v qualified es own _ _ (both_limits a d tx ty' y s z q same m n) i =
        subst (λ x. Agrees U K w R (next_of D (keeps_limit a x (scalar ty' s)) w.src) (next_by g k (keeps_limit d z q) w.net)) (sym i.limit.1)
        (subst (λ x. Agrees U K w R (next_of D (keeps_limit a (scalar ty i.limit.0) x) w.src) (next_by g k (keeps_limit d z q) w.net)) (sym i.step.1)
        (counter_agrees ty counts v.0 own a d i.limit.0 i.step.0 z q
        (record { found = i.found; place = i.place; limit = (i.limit.0, refl); step = (i.step.0, refl) }) same (subst (λ x. LikeV U w x z) i.limit.1 m)
        (subst (λ x. LikeV U w x q) i.step.1 n)))
    next_by_kept exact ty counts v qualified es own _ _ (both_choices tx x y m) i = agrees_outside U K w R (next_by g k (keeps_value y) w.net)
    next_by_kept exact ty counts v qualified es own _ _ (both_objects tx x s y m home) i = agrees_outside U K w R (next_by g k (keeps_address (net_store.constant s y)) w.net)
    next_by_kept exact ty counts v qualified es own _ _ (both_arrays e dims xs s y) i =
        agrees_outside U K w R (next_by g k (keeps_address (net_store.constant s y)) w.net)
    next_by_kept exact ty counts v qualified es own _ _ (both_addresses a d m) i = agrees_outside U K w R (next_by g k (keeps_address d) w.net)

    next_by_counter : (exact : Bool) (ty : Ty) (t : Term) (es : List Expr) → is_counter ty ≡ true → is_local_term U.program p t ≡ true → (a : Kept Value Address)
        (d : Kept net_value.Value net_store.Address) → KeptMatch U K w exact a d → IsCounting f.vars (typed ty t ∷ es) a
        → Agrees U K w R (next_of D a w.src) (next_by g k d w.net)
    next_by_counter exact ty (variable v qualified) es counts local a d m i =
        next_by_kept exact ty counts v qualified es (own_local U p v.0 local) a d m i
    next_by_counter exact ty _ es counts local a d m i = absurd (true≢false (sym local))

    -- by a covered For
    next_by_head : (exact : Bool) (form : Form) (ds : List Expr) (others : Uses) → covers_form others form ds ≡ true → counts_local U.program p form ds ≡ true
        → (a : Kept Value Address) (d : Kept net_value.Value net_store.Address) → KeptMatch U K w exact a d → KeptBy f.vars form ds a d
        → Agrees U K w R (next_of D a w.src) (next_by g k d w.net)
    next_by_head exact (source_form.for_head head first last pace) [] others known local a d m i = absurd (true≢false (sym local))
    next_by_head exact (source_form.for_head head first last pace) (e ∷ []) others known local a d m i = absurd (true≢false (sym known))
    next_by_head exact (source_form.for_head head first last pace) (e ∷ start ∷ []) others known local a d m i = absurd (true≢false (sym known))
    next_by_head exact (source_form.for_head head first last pace) (typed ty t ∷ start ∷ limit ∷ steps) others known local a d m i =
        let e : Expr = typed ty t in
        let x = both_true (covers_counter others e) (covers_value others ty start && (covers_value others ty limit && covers_step others ty steps)) known in
        let y = both_true (is_variable e) (is_counter ty && covers_expr others e) x.0 in
        next_by_counter exact ty t (start ∷ limit ∷ steps) (both_true (is_counter ty) (covers_expr others e) y.1).0 local a d m i
    next_by_head exact _ ds others known local a d m i = absurd (true≢false (sym local))

    next_by_line : (name : Option (List ℕ × Suffix)) (es : List Expr) (n : ℕ) (o : Option Line) → nth_line (lines_of U p) n ≡ o
        → covers_part U.program p (source_form.next name) es o ≡ true → Agrees U K w R (next_of D (f.kept n) w.src) (next_by g k (g.kept n) w.net)
    next_by_line name es n None is stands = absurd (true≢false (sym stands))
    next_by_line name es n (Some m) is stands =
        let F : FrameMatch U K w p f g = G w (later_now U K w h) in
        let parts = both_true (covers_line U.program p m) (counts_local U.program p m.source.form m.bindings.exprs) stands in
        let known = (both_true (covers_form (uses_in U.program p m.bindings.mentions) m.source.form m.bindings.exprs) (list_all is_formed m.bindings.exprs) parts.0).0 in
        next_by_head (is_exact_head U (nth_line (lines_of U p) n)) m.source.form m.bindings.exprs (uses_in U.program p m.bindings.mentions) known parts.1
        (f.kept n) (g.kept n) (F.kept n) (F.covered_heads n m is parts.0)

    next_by_own : (name : Option (List ℕ × Suffix)) (es : List Expr) (o : Option ℕ) → covers_part U.program p (source_form.next name) es (head_line (lines_of U p) o) ≡ true
        → Agrees U K w R (some_of o (λ n s. next_of D (f.kept n) s) w.src) (some_of o (λ n t. next_by g k (g.kept n) t) w.net)
    next_by_own name es None stands = absurd (true≢false (sym stands))
    next_by_own name es (Some n) stands = next_by_line name es n (nth_line (lines_of U p) n) refl stands

    pub next_agrees : (name : Option (List ℕ × Suffix)) (es : List Expr) → covers_part U.program p (source_form.next name) es (head_line (lines_of U p) l.aims.own) ≡ true
        → Agrees U K w R (some_of l.aims.own (λ n s. next_of D (f.kept n) s) w.src) (next_does g k w.net)
    next_agrees name es stands =
        subst (λ o. Agrees U K w R (some_of l.aims.own (λ n s. next_of D (f.kept n) s) w.src) (some_of o (λ n t. next_by g k (g.kept n) t) w.net))
        (sym (ap (λ a. a.own) aims)) (next_by_own name es l.aims.own stands)
