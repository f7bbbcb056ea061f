-- For and Next.
use Rattle.std.proofs.Common.{◌≡◌, refl, sym, ap, ◌∙◌, subst, ℕ, pos, Bool, true, false, ◌&&◌, true≢false, List, [], ◌∷◌, Option, Some, None}
use Rattle.std.specs.Prelude.{slice_get, ◌+ℤ◌}
use Rattle.std.specs.List.{list_all}
use Rattle.up_base.proofs.Tests.{both_true}
use Rattle.vb_tree.specs.BoundTree.{Ty}
use Rattle.vb_tree.specs.BoundTree as types
use Rattle.vb_tree.specs.declared.declared.Owner.{Owner}
use Rattle.vb_tree.specs.declared.declared.Owner.TheVariants as owner
use Rattle.vb_tree.specs.declared.declared.VarId.{VarId}
use Rattle.vb_tree.specs.declared.expression.BinOp.TheVariants as b
use Rattle.vb_tree.specs.declared.token.Suffix.{Suffix}
use Rattle.vb_tree.specs.declared.value.Value6.{Value6}
use Rattle.vb_tree.specs.declared.value.Value6.TheVariants as v
use Rattle.vb_tree.specs.Tree.{Exp, Form}
use Rattle.vb_tree.specs.Tree as source
use Rattle.vb6_meaning.specs.Answers.{Answer}
use Rattle.vb6_meaning.specs.Answers as answer
use Rattle.vb6_meaning.specs.Values.{coerce, typed as typed_row}
use Rattle.bound_tree.specs.declared.body.Mention.{Mention}
use Rattle.bound_tree.specs.Tree.{Declarations, Program, Expr, typed, variable}
use Rattle.bound_tree.specs.Tree as tree
use Rattle.bound_facts.specs.Locks.{is_same_type}
use Rattle.bound_facts.specs.Node.{type_at}
use Rattle.run_base.specs.Frames.{Kept, keeps_nothing, keeps_limit, keeps_value, keeps_address, keeping}
use Rattle.run_base.specs.Machines.{nth_line}
use Rattle.run_base.specs.Outcomes.{Outcome, gives, after, then, answered, some_of}
use Rattle.run_base.specs.Positions.{Position}
use Rattle.written_trees.specs.Arguments.{is_reference_owner}
use Rattle.vb6_run.specs.Programs.{is_local_of}
use Rattle.vb6_run.specs.Expressions.{Context, declared, value_of, address_of, finished}
use Rattle.vb6_run.specs.Lines.{branch, counted, for_does, for_from, has_passed, keeping_limit, next_of, passed_by, step_of, sum_of}
use Rattle.vb6_run.specs.Shapes.{Shape, simple}
use Rattle.vb6_run.specs.Store.{Address, Memory, SourceFrame, root, item, constant, single, with_held, write}
use Rattle.vb6_run.specs.Values.{Value, scalar}
use Rattle.run_matches.specs.CoveredVariables.{covers_type}
use Rattle.run_matches.specs.CoveredExprs.{Uses, covers_expr, covers_value, is_variable, uses_in}
use Rattle.run_matches.specs.CoveredLines.{counts_local, covers_counter, covers_counting, covers_form, covers_line, covers_part, covers_step, head_line, is_counter, is_local_in}
use Rattle.run_matches.specs.Formed.{is_formed}
use Rattle.typing_laws.specs.Flat.{flat_uses}
use Rattle.typing_laws.specs.Calls.{CallsKeep, Each, IsAimed, SourceJob}
use Rattle.typing_laws.specs.Frames.{IsLimit, IsTypedFrame, Keeps, Stands, counter_of, numbered}
use Rattle.typing_laws.specs.Leaving.{Leaves, CountingLeaves, LineLeaves, in_start, in_limit, in_step, in_counting, next_unkept}
use Rattle.typing_laws.specs.Plain.{Holds, IsShapeOf, IsValue, holds_scalar}
use Rattle.typing_laws.proofs.Addresses.{AtRoot, at_root, root_read, root_written, simple_is}
use Rattle.typing_laws.proofs.Held.{Single, single_of}
use Rattle.typing_laws.proofs.Choices.{IsOrdered, IsTest, compared, ordered}
use Rattle.typing_laws.proofs.Ends.{Ends, ends_after, ends_from, ends_weaker, keeps_self, sound_later, then_ends}
use Rattle.typing_laws.proofs.Expressions.{IsTyped, same_type, variable_is, variable_place}
use Rattle.typing_laws.proofs.Frames.{frame_later}
use Rattle.typing_laws.proofs.Library.{integer_answer, long_answer}
use Rattle.typing_laws.proofs.Lines.{Good, IsFine, IsIn, KeepsAt, branches, fine_ends, fine_type, fits_in, in_later, never_nowhere, never_unopened}
use Rattle.typing_laws.proofs.Places.{keeps_changed, not_none, some_is, stands_changed}
use Rattle.typing_laws.proofs.Plain.{Plain, a_boolean, a_byte, an_integer, a_long, a_currency, a_text, is_covered, same_as}
use Rattle.typing_laws.proofs.Rows.{IsAnswer}
use Rattle.typing_laws.proofs.Flat.{variable_used}
use Rattle.typing_laws.proofs.Uses.{PlaceOf, Used, use_is}
use Rattle.typing_laws.specs.Frames.{Footprint, Ground, ground}

-- ---- rows of counters

abbrev Passes : Value6 → Value6 → Value6 → Type 0
Passes s x y = (t : Bool) × (has_passed s x y ≡ answer.gives (v.Boolean t))

passed_way : (s x y : Value6) (r : IsTest b.Less s (v.Int (pos 0))) → IsTest b.Less x y → IsTest b.Greater x y → Passes s x y
passed_way s x y (true, is) down up = (down.0, ap (λ a. answer.then_answer a (λ z. passed_by z x y)) is ∙ down.1)
passed_way s x y (false, is) down up = (up.0, ap (λ a. answer.then_answer a (λ z. passed_by z x y)) is ∙ up.1)

below_zero : (ty : Ty) (s : Value6) → is_counter ty ≡ true → Plain ty s → IsOrdered s (v.Int (pos 0))
below_zero _ _ c (an_integer z h) = (_, refl)
below_zero _ _ c (a_long z h) = (_, refl)
below_zero _ _ c (a_boolean t) = absurd (true≢false (sym c))
below_zero _ _ c (a_byte m h) = absurd (true≢false (sym c))
below_zero _ _ c (a_currency z h) = absurd (true≢false (sym c))
below_zero _ _ c (a_text s) = absurd (true≢false (sym c))

passes : (ty : Ty) (s x y : Value6) → is_counter ty ≡ true → Plain ty s → Plain ty x → Plain ty y → Passes s x y
passes ty s x y c p q r =
    passed_way s x y (compared b.Less s (v.Int (pos 0)) refl (below_zero ty s c p)) (compared b.Less x y refl (ordered ty x y q r))
    (compared b.Greater x y refl (ordered ty x y q r))

sum_answer : (ty : Ty) (x s : Value6) → is_counter ty ≡ true → Plain ty x → Plain ty s → IsAnswer ty ⊥ (typed_row b.Add x s)
sum_answer _ _ _ c (an_integer x h) (an_integer s i) = integer_answer ⊥ (x +ℤ s)
sum_answer _ _ _ c (a_long x h) (a_long s i) = long_answer ⊥ (x +ℤ s)
sum_answer _ _ _ c (a_boolean t) _ = absurd (true≢false (sym c))
sum_answer _ _ _ c (a_byte m h) _ = absurd (true≢false (sym c))
sum_answer _ _ _ c (a_currency z h) _ = absurd (true≢false (sym c))
sum_answer _ _ _ c (a_text s) _ = absurd (true≢false (sym c))

-- a step of 1 in the type of the counter
one_step : (ty : Ty) → is_counter ty ≡ true → (z : Value6) × (coerce (v.Int (pos 1)) ty ≡ answer.gives z) × Plain ty z
one_step types.integer c = (v.Int (pos 1), refl, an_integer (pos 1) refl)
one_step types.long c = (v.Long (pos 1), refl, a_long (pos 1) refl)
one_step _ c = absurd (true≢false (sym c))

-- ---- where a For goes

module _ (C : Context) (F : Footprint) where
  counted_ends : (E : Type 0) (w : Memory) → IsIn C F w → (inside behind : Option ℕ) (ty : Ty) (x y s : Value) → is_counter ty ≡ true → IsValue ty x
      → IsValue ty y → IsValue ty s → (inside ≡ None → E) → (behind ≡ None → E) → Ends (ground (declared C) F) (Good C F) E w (counted C inside behind x y s w)
  counted_ends E w h inside behind ty x y s c p q r first second =
      let t : Passes r.0 p.0 q.0 = passes ty r.0 p.0 q.0 c r.2 p.2 q.2 in
      subst (λ z. Ends (ground (declared C) F) (Good C F) E w (counted C inside behind z y s w)) (sym p.1)
      (subst (λ z. Ends (ground (declared C) F) (Good C F) E w (counted C inside behind (scalar ty p.0) z s w)) (sym q.1)
      (subst (λ z. Ends (ground (declared C) F) (Good C F) E w (counted C inside behind (scalar ty p.0) (scalar ty q.0) z w)) (sym r.1)
      (ends_after (ground (declared C) F) (Good C F) E w [] (after [] (after [] (then (answered (has_passed r.0 p.0 q.0) w) (branch C behind inside))))
      (ends_after (ground (declared C) F) (Good C F) E w [] (after [] (then (answered (has_passed r.0 p.0 q.0) w) (branch C behind inside)))
      (ends_after (ground (declared C) F) (Good C F) E w [] (then (answered (has_passed r.0 p.0 q.0) w) (branch C behind inside))
      (subst (λ a. Ends (ground (declared C) F) (Good C F) E w (then (answered a w) (branch C behind inside))) (sym t.1)
      (ends_after (ground (declared C) F) (Good C F) E w [] (branch C behind inside (v.Boolean t.0) w) (branches C F E behind inside (v.Boolean t.0) w h (a_boolean t.0) second first))))))))

module _ (C : Context) (F : Footprint) (X : SourceJob → Memory → Type 0) (calls : CallsKeep C F X) (mentions : List Mention) where
  abbrev K : Ground
  K = ground (declared C) F

  abbrev Fine : Expr → Type 0
  Fine e = IsFine C F X calls mentions e

  abbrev uses : Uses
  uses = flat_uses C.runnable.program C.procedure mentions

  some_none : (n : ℕ) → ◌≡◌ {A = Option ℕ} (Some n) None → ⊥
  some_none n e = not_none (sym e)

  -- ---- For

  -- the counter is a local variable
  local_owner : (id : VarId) (u : Used (declared C) C.procedure id) → is_local_in C.procedure (slice_get (declared C).vars id.0) ≡ true
      → is_reference_owner u.variable.owner ≡ false
  local_owner id u h = by u.variable.owner (sym (ap (λ o. is_local_in C.procedure o) u.is_variable) ∙ h)
    where
      by : (o : Owner) → is_local_of C.procedure o ≡ true → is_reference_owner o ≡ false
      by (owner.Local p) h = refl
      by _ h = absurd (true≢false (sym h))

  from_ends : (counter start limit : Exp) (step : Option Exp) (L : Type 0) (w : Memory) → IsIn C F w → (ty : Ty) (id : VarId) (qualified : Bool) (rest : List Expr)
      → Fine (typed ty (variable id qualified)) → is_local_in C.procedure (slice_get (declared C).vars id.0) ≡ true → is_counter ty ≡ true
      → KeepsAt C F (source.for_head counter start limit step) (typed ty (variable id qualified) ∷ rest) → (x y s : Value) → IsValue ty x → IsValue ty y → IsValue ty s
      → (C.aims.otherwise ≡ None → L) → Ends (ground (declared C) F) (Good C F) L w (for_from C (typed ty (variable id qualified)) x y s w)
  from_ends counter start limit step L w h ty id qualified rest fine local c keep x y s p q r out =
      let D : Declarations = declared C in
      let K : Ground = ground (declared C) F in
      let e : Expr = typed ty (variable id qualified) in
      let u : Used D C.procedure id = use_is C.runnable.program C.procedure mentions id (variable_used uses ty id qualified fine.covers) in
      let place : PlaceOf C.runnable.program F C.frame w id.0 u.variable = variable_place C F w (fits_in C F w h) id u in
      let same : ty ≡ u.variable.ty = same_type D C.procedure ty id u fine.typed in
      let at : AtRoot C.runnable.program F w u.variable place.0 = at_root C.runnable.program F w id.0 u.variable place.0 place.2 (local_owner id u local) in
      let there : Stands K w at.position ty = subst (λ t. Stands K w at.position t) (sym same) at.stands in
      let covers : covers_type ty ≡ true = is_covered ty p.0 p.2 in
      let one : Single ty (w.held at.position) = single_of ty (w.held at.position) covers there.holds in
      let a : Address = root (simple ty) at.position in
      let new : Holds ty (single ty p.0) = holds_scalar ty p.0 p.2 in
      let w2 : Memory = with_held at.position (single ty p.0) w in
      let change : Keeps K w w2 = keeps_changed K w at.position ty (single ty p.0) there new in
      let C2 : Context = keeping_limit C a y s in
      let K1 = λ (b : Address) (v : Memory). then (write C.frame.env (scalar ty p.0) b v)
      (λ (z : Unit {0}) t. counted (keeping_limit C b y s) (Some C.aims.after) C.aims.otherwise (scalar ty p.0) y s t) in
      let K2 = λ (z : Unit {0}) (t : Memory). counted C2 (Some C.aims.after) C.aims.otherwise (scalar ty p.0) y s t in
      let fits : IsShapeOf D ty at.shape = subst (λ t. IsShapeOf D t at.shape) (sym same) at.fits in
      let at_variable : address_of C e w ≡ gives [] a w =
      ap (λ r. then r finished) (variable_is C ty id qualified w place.0 place.1 u.plain)
      ∙ ap (λ b. gives [] b w) (at.is ∙ ap (λ d. root d at.position) (simple_is ty at.shape covers fits)) in
      let frame : IsTypedFrame F C.runnable C.procedure w2 (keeping (keeps_limit a y s) C.frame.line C.frame) =
      keep w2 (keeps_limit a y s) C.frame.line (frame_later F C.runnable C.procedure w w2 C.frame change h.frame) (record {
        limit = λ d is. subst (λ (z : Expr). IsLimit K w2 (type_at z) (keeps_limit a y s)) (some_is is) (refl, stands_changed K w at.position ty (single ty p.0) there new, q, r);
        choice = λ d is. absurd (not_none is);
      }) in
      let r2 : Outcome Memory SourceFrame = counted C2 (Some C.aims.after) C.aims.otherwise (scalar ty p.0) y s w2 in
      let ends : Ends K (Good C F) L w2 r2 =
      counted_ends C2 F L w2 (record { sound = sound_later K w w2 change h.sound; frame = frame }) (Some C.aims.after) C.aims.otherwise ty (scalar ty p.0) y s c
      (p.0, refl, p.2) q r (λ e. absurd (some_none C.aims.after e)) out in
      subst (λ z. Ends K (Good C F) L w (for_from C e z y s w)) (sym p.1)
      (subst (λ r. Ends K (Good C F) L w r)
      (sym (ap (λ r. then r K1) at_variable ∙ ap (λ r. after [] (then r K2)) (root_written K w ty C.frame.env p.0 p.2 at.position one.value one.holds)))
      (ends_after K (Good C F) L w [] (after [] r2) (ends_after K (Good C F) L w [] r2 (ends_from K (Good C F) L w w2 r2 change ends))))

  step_ends : (L : Type 0) (w : Memory) → IsIn C F w → (e : Expr) (es : List Expr) → is_counter (type_at e) ≡ true → covers_step uses (type_at e) es ≡ true
      → Each Fine es → ((s : Expr) → es ≡ s ∷ [] → Leaves C X s w → L) → Ends (ground (declared C) F) (IsTyped (type_at e)) L w (step_of C e es w)
  step_ends L w h e [] c covers fine out =
      let o = one_step (type_at e) c in
      subst (λ a. Ends (ground (declared C) F) (IsTyped (type_at e)) L w (then (answered a w) (λ x w. gives [] (scalar (type_at e) x) w))) (sym o.1)
      (keeps_self (ground (declared C) F) w, (o.0, refl, o.2))
  step_ends L w h e (s ∷ []) c covers fine out =
      let same : type_at e ≡ type_at s =
      same_as (type_at e) (type_at s) (fine_type C F X calls mentions s fine.0) (both_true (is_same_type (type_at e) (type_at s)) (covers_expr uses s) covers).0 in
      subst (λ t. Ends (ground (declared C) F) (IsTyped t) L w (value_of C s w)) (sym same)
      (ends_weaker (ground (declared C) F) (IsTyped (type_at s)) (Leaves C X s w) L w (value_of C s w) (out s refl) (fine_ends C F X calls mentions s fine.0 w h))
  step_ends L w h e (s ∷ t ∷ es) c covers fine out = absurd (true≢false (sym covers))

  limits_end : (counter first last : Exp) (step : Option Exp) (w : Memory) → IsIn C F w → (ty : Ty) (id : VarId) (qualified : Bool) (start limit : Expr) (es : List Expr)
      → is_counter ty ≡ true → covers_value uses ty start ≡ true → covers_value uses ty limit ≡ true → covers_step uses ty es ≡ true
      → Fine (typed ty (variable id qualified)) → is_local_in C.procedure (slice_get (declared C).vars id.0) ≡ true → Fine start → Fine limit → Each Fine es
      → IsAimed C (source.for_head counter first last step) → KeepsAt C F (source.for_head counter first last step) (typed ty (variable id qualified) ∷ start ∷ limit ∷ es)
      → Ends (ground (declared C) F) (Good C F) (LineLeaves C X (source.for_head counter first last step) (typed ty (variable id qualified) ∷ start ∷ limit ∷ es) w) w
      (for_does C (typed ty (variable id qualified) ∷ start ∷ limit ∷ es) w)
  limits_end counter first last step w h ty id qualified start limit es c c1 c2 c3 fine local f1 f2 f3 aimed keep =
      let D : Declarations = declared C in
      let K : Ground = ground (declared C) F in
      let e : Expr = typed ty (variable id qualified) in
      let L : Type 0 = LineLeaves C X (source.for_head counter first last step) (e ∷ start ∷ limit ∷ es) w in
      let J = λ (x y s : Value) (v : Memory). for_from C e x y s v in
      let same = λ (d : Expr) (f : Fine d) (cover : covers_value uses ty d ≡ true).
      same_as ty (type_at d) (fine_type C F X calls mentions d f) (both_true (is_same_type ty (type_at d)) (covers_expr uses d) cover).0 in
      then_ends K (IsTyped (type_at start)) (Good C F) L w (value_of C start w)
      (λ x v. then (value_of C limit v) (λ y u. then (step_of C e es u) (λ s t. J x y s t)))
      (ends_weaker K (IsTyped (type_at start)) (Leaves C X start w) L w (value_of C start w)
      (λ l. in_counting counter first last step (e ∷ start ∷ limit ∷ es) w (in_start e start limit es w l)) (fine_ends C F X calls mentions start f1 w h))
      (λ o x v one k p.
      let hv : IsIn C F v = in_later C F w v k h in
      then_ends K (IsTyped (type_at limit)) (Good C F) L v (value_of C limit v) (λ y u. then (step_of C e es u) (λ s t. J x y s t))
      (ends_weaker K (IsTyped (type_at limit)) (Leaves C X limit v) L v (value_of C limit v)
      (λ l. in_counting counter first last step (e ∷ start ∷ limit ∷ es) w (in_limit e start limit es w v o x one l)) (fine_ends C F X calls mentions limit f2 v hv))
      (λ o2 y u two k2 q.
      let hu : IsIn C F u = in_later C F v u k2 hv in
      then_ends K (IsTyped ty) (Good C F) L u (step_of C e es u) (λ s t. J x y s t)
      (step_ends L u hu e es c c3 f3
      (λ s is l.
      in_counting counter first last step (e ∷ start ∷ limit ∷ es) w
      (subst (λ (ds : List Expr). CountingLeaves C X (e ∷ start ∷ limit ∷ ds) w) (sym is) (in_step e start limit s w v u o o2 x y one two l))))
      (λ o3 s t three k3 r.
      from_ends counter first last step L t (in_later C F u t k3 hu) ty id qualified (start ∷ limit ∷ es) fine local c keep x y s
      (subst (λ z. IsValue z x) (sym (same start f1 c1)) p) (subst (λ z. IsValue z y) (sym (same limit f2 c2)) q) r
      (λ out. never_nowhere C (source.for_head counter first last step) L aimed refl out))))

  pub for_ends : (counter first last : Exp) (step : Option Exp) (w : Memory) → IsIn C F w → (es : List Expr) → covers_counting uses es ≡ true → Each Fine es
      → counts_local C.runnable.program C.procedure (source.for_head counter first last step) es ≡ true → IsAimed C (source.for_head counter first last step) → KeepsAt C F (source.for_head counter first last step) es
      → Ends (ground (declared C) F) (Good C F) (LineLeaves C X (source.for_head counter first last step) es w) w (for_does C es w)
  for_ends counter first last step w h [] covers fine local aimed keep = absurd (true≢false (sym covers))
  for_ends counter first last step w h (e ∷ []) covers fine local aimed keep = absurd (true≢false (sym covers))
  for_ends counter first last step w h (e ∷ start ∷ []) covers fine local aimed keep = absurd (true≢false (sym covers))
  for_ends counter first last step w h (typed ty (variable id qualified) ∷ start ∷ limit ∷ es) covers fine local aimed keep =
      let e : Expr = typed ty (variable id qualified) in
      let a = both_true (covers_counter uses e) (covers_value uses ty start && (covers_value uses ty limit && covers_step uses ty es)) covers in
      let b = both_true (covers_value uses ty start) (covers_value uses ty limit && covers_step uses ty es) a.1 in
      let d = both_true (covers_value uses ty limit) (covers_step uses ty es) b.1 in
      let c = both_true (is_counter ty) (covers_expr uses e) a.0 in
      limits_end counter first last step w h ty id qualified start limit es c.0 b.0 d.0 d.1 fine.0 local fine.1.0 fine.1.1.0 fine.1.1.1 aimed keep
  for_ends counter first last step w h (typed ty _ ∷ start ∷ limit ∷ es) covers fine local aimed keep = absurd (true≢false (sym covers))

  -- ---- Next

  sum_ends : (L : Type 0) (w : Memory) (ty : Ty) (J : Value → Memory → Outcome Memory SourceFrame) (a : Answer Value6) → IsAnswer ty ⊥ a
      → ((z : Value6) → Plain ty z → Ends (ground (declared C) F) (Good C F) L w (J (scalar ty z) w))
      → Ends (ground (declared C) F) (Good C F) L w (then (then (answered a w) (λ z w. gives [] (scalar ty z) w)) J)
  sum_ends L w ty J (answer.gives z) h go = ends_after (ground (declared C) F) (Good C F) L w [] (J (scalar ty z) w) (go z h)
  sum_ends L w ty J (answer.raises n) h go = keeps_self (ground (declared C) F) w
  sum_ends L w ty J answer.outside h go = absurd h

  goes_ends : (L : Type 0) (w : Memory) → IsIn C F w → (ty : Ty) → is_counter ty ≡ true → (q : Position) (y s : Value) → Stands K w q ty → IsValue ty y → IsValue ty s
      → (C.aims.back ≡ None → L) → Ends (ground (declared C) F) (Good C F) L w (next_of C (keeps_limit (root (simple ty) q) y s) w)
  goes_ends L w h ty c q y s there p r out =
      let D : Declarations = declared C in
      let K : Ground = ground (declared C) F in
      let a : Address = root (simple ty) q in
      let covers : covers_type ty ≡ true = is_covered ty p.0 p.2 in
      let one : Single ty (w.held q) = single_of ty (w.held q) covers there.holds in
      let G = λ (t : Value) (x : Value) (v : Memory). then (write C.frame.env x a v) (λ (u : Unit {0}) m. counted C C.aims.back (Some C.aims.after) x y t m) in
      subst (λ t. Ends K (Good C F) L w (next_of C (keeps_limit a y t) w)) (sym r.1)
      (subst (λ z. Ends K (Good C F) L w (then z (λ x v. then (sum_of x (scalar ty r.0) v) (G (scalar ty r.0))))) (sym (root_read K w ty q one.value one.holds one.plain))
      (ends_after K (Good C F) L w [] (then (sum_of (scalar ty one.value) (scalar ty r.0) w) (G (scalar ty r.0)))
      (sum_ends L w ty (G (scalar ty r.0)) (typed_row b.Add one.value r.0) (sum_answer ty one.value r.0 c one.plain r.2)
      (λ z plain.
      let w2 : Memory = with_held q (single ty z) w in
      let change : Keeps K w w2 = keeps_changed K w q ty (single ty z) there (holds_scalar ty z plain) in
      let r2 : Outcome Memory SourceFrame = counted C C.aims.back (Some C.aims.after) (scalar ty z) y (scalar ty r.0) w2 in
      subst (λ o. Ends K (Good C F) L w (then o (λ (u : Unit {0}) m. counted C C.aims.back (Some C.aims.after) (scalar ty z) y (scalar ty r.0) m)))
      (sym (root_written K w ty C.frame.env z plain q one.value one.holds))
      (ends_after K (Good C F) L w [] r2
      (ends_from K (Good C F) L w w2 r2 change
      (counted_ends C F L w2 (in_later C F w w2 change h) C.aims.back (Some C.aims.after) ty (scalar ty z) y (scalar ty r.0) c (z, refl, plain) p (r.0, refl, r.2) out
      (λ e. absurd (some_none C.aims.after e)))))))))

  kept_ends : (name : Option (List ℕ × Suffix)) (es : List Expr) (w : Memory) → IsIn C F w → (n : ℕ) → IsAimed C (source.next name) → C.aims.own ≡ Some n → (ty : Ty) → is_counter ty ≡ true
      → (k : Kept Value Address) → C.frame.kept n ≡ k → IsLimit K w ty k
      → Ends (ground (declared C) F) (Good C F) (LineLeaves C X (source.next name) es w) w (next_of C k w)
  kept_ends name es w h n aimed own ty c keeps_nothing is kept = next_unkept name es w n own is
  kept_ends name es w h n aimed own ty c (keeps_limit (root d q) y s) is kept =
      subst (λ (z : Shape). Ends (ground (declared C) F) (Good C F) (LineLeaves C X (source.next name) es w) w (next_of C (keeps_limit (root z q) y s) w)) (sym kept.0)
      (goes_ends (LineLeaves C X (source.next name) es w) w h ty c q y s kept.1 kept.2 kept.3 (λ out. never_unopened C name n (LineLeaves C X (source.next name) es w) aimed own out))
  kept_ends name es w h n aimed own ty c (keeps_limit (item e q j path) y s) is kept = absurd kept
  kept_ends name es w h n aimed own ty c (keeps_limit (constant x) y s) is kept = absurd kept
  kept_ends name es w h n aimed own ty c (keeps_value x) is kept = absurd kept
  kept_ends name es w h n aimed own ty c (keeps_address a) is kept = absurd kept

  abbrev Counts : Form → List Expr → Type 0
  Counts f es = (e : Expr) × (counter_of f es ≡ Some e) × (is_counter (type_at e) ≡ true)

  counts_in : (vs : Uses) (f : Form) (es : List Expr) → covers_form vs f es ≡ true → counts_local C.runnable.program C.procedure f es ≡ true → Counts f es
  counts_in vs (source.for_head counter first last step) [] covers h = absurd (true≢false (sym h))
  counts_in vs (source.for_head counter first last step) (e ∷ []) covers h = absurd (true≢false (sym covers))
  counts_in vs (source.for_head counter first last step) (e ∷ start ∷ []) covers h = absurd (true≢false (sym covers))
  counts_in vs (source.for_head counter first last step) (e ∷ start ∷ limit ∷ es) covers h =
      let a = both_true (covers_counter vs e) _ covers in
      let b = both_true (is_variable e) (is_counter (type_at e) && covers_expr vs e) a.0 in
      (e, refl, (both_true (is_counter (type_at e)) (covers_expr vs e) b.1).0)
  counts_in vs _ es covers h = absurd (true≢false (sym h))

  pub next_ends : (name : Option (List ℕ × Suffix)) (es : List Expr) (w : Memory) → IsIn C F w → IsAimed C (source.next name) → (lines : List tree.Line)
      → slice_get C.runnable.program.bodies C.procedure ≡ Some lines
      → covers_part C.runnable.program C.procedure (source.next name) es (head_line lines C.aims.own) ≡ true
      → Ends (ground (declared C) F) (Good C F) (LineLeaves C X (source.next name) es w) w (some_of C.aims.own (λ h w. next_of C (C.frame.kept h) w) w)
  next_ends name es w h aimed lines are_lines part = by C.aims.own refl part
    where
      at_head : (n : ℕ) → C.aims.own ≡ Some n → (o : Option tree.Line) → nth_line lines n ≡ o
          → covers_part C.runnable.program C.procedure (source.next name) es o ≡ true
          → Ends (ground (declared C) F) (Good C F) (LineLeaves C X (source.next name) es w) w (next_of C (C.frame.kept n) w)
      at_head n own None is part = absurd (true≢false (sym part))
      at_head n own (Some m) is part =
          let b = both_true (covers_line C.runnable.program C.procedure m) (counts_local C.runnable.program C.procedure m.source.form m.bindings.exprs) part in
          let vs : Uses = uses_in C.runnable.program C.procedure m.bindings.mentions in
          let c : Counts m.source.form m.bindings.exprs =
          counts_in vs m.source.form m.bindings.exprs (both_true (covers_form vs m.source.form m.bindings.exprs) (list_all is_formed m.bindings.exprs) b.0).0 b.1 in
          let kept = h.frame.kept n m (ap (λ (q : Option (List tree.Line)). numbered q n) are_lines ∙ is) in
          kept_ends name es w h n aimed own (type_at c.0) c.2 (C.frame.kept n) refl (kept.limit c.0 c.1)

      by : (o : Option ℕ) → C.aims.own ≡ o → covers_part C.runnable.program C.procedure (source.next name) es (head_line lines o) ≡ true
          → Ends (ground (declared C) F) (Good C F) (LineLeaves C X (source.next name) es w) w (some_of o (λ h w. next_of C (C.frame.kept h) w) w)
      by None own part = absurd (true≢false (sym part))
      by (Some n) own part = at_head n own (nth_line lines n) refl part
