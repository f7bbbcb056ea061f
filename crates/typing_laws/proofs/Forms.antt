-- All forms of covered lines.
use Rattle.std.proofs.Common.{◌≡◌, refl, sym, ap, ◌∙◌, subst, ℕ, Bool, true, false, cond, ◌&&◌, true≢false, List, [], ◌∷◌, Option, Some, None, ◌⊎◌, inl, inr}
use Rattle.std.specs.Prelude.{slice_get}
use Rattle.std.specs.List.{flat_map, list_all}
use Rattle.up_base.proofs.Lists.{all_first, all_rest}
use Rattle.up_base.proofs.Tests.{both_true, and_true}
use Rattle.vb_tree.specs.BoundTree.{Ty}
use Rattle.vb_tree.specs.BoundTree as types
use Rattle.vb_tree.specs.declared.form_parts.ExitKind.{ExitKind}
use Rattle.vb_tree.specs.declared.form_parts.ExitKind.TheVariants as leaving
use Rattle.vb_tree.specs.declared.form_parts.Label6.{Label6}
use Rattle.vb_tree.specs.Tree.{Args, CaseItem, Exp, Form, case_value, case_range, case_is}
use Rattle.vb_tree.specs.Tree as source
use Rattle.bound_tree.specs.declared.body.Mention.{Mention}
use Rattle.bound_tree.specs.Targets.{exit_to}
use Rattle.bound_tree.specs.Tree.{Declarations, Program, Expr}
use Rattle.bound_tree.specs.Tree as tree
use Rattle.bound_facts.specs.Node.{type_at}
use Rattle.bound_facts.specs.Bounds.{resize_rank}
use Rattle.bound_facts.specs.Parts.{line_uses, resized_by, resizes, used_nodes}
use Rattle.run_base.specs.Frames.{Handler, none, next_line, at_line, resumed_at}
use Rattle.run_base.specs.Machines.{behind_error, if_active, line_at, nth_line, resume_at}
use Rattle.run_base.specs.Outcomes.{Outcome, gives, outside, some_of, then}
use Rattle.vb6_run.specs.Arrays.{erase}
use Rattle.vb6_run.specs.Expressions.{Context, address_of, declared, parts_of}
use Rattle.vb6_run.specs.Forms.{SourceLine, form_does, idle_machine}
use Rattle.vb6_run.specs.Lines.{condition, goes_on, goes_to, handles_by, line_of_label, redim_does, to_label, when_done}
use Rattle.vb6_run.specs.Store.{Does, Memory, SourceFrame, set_err}
use Rattle.run_matches.specs.CoveredVariables.{has_extents, has_rank}
use Rattle.run_matches.specs.CoveredExprs.{Uses, covers_expr, covers_value, is_variable}
use Rattle.run_matches.specs.CoveredLines.{covers_called, covers_counter, covers_counting, covers_form, covers_items, covers_part, covers_step, head_line, is_comparison, is_counter}
use Rattle.bound_facts.specs.Locks.{is_same_type}
use Rattle.run_matches.specs.Formed.{is_formed}
use Rattle.typing_laws.specs.Flat.{is_no_with, has_field_type, is_flat_line, flat_uses, outer_uses}
use Rattle.typing_laws.specs.Calls.{CallsAreSuited, CallsKeep, Each, IsAimed, IsSuited, SourceJob}
use Rattle.typing_laws.specs.Frames.{code_line, numbered}
use Rattle.typing_laws.specs.Leaving.{Leaves, LineLeaves, ResizesLeave, in_assigned, in_target, in_items, at_print, in_call, in_invoked, in_condition, in_redim, erases_fixed, unopened, exit_outside, no_label, resumes_at_head, has_condition, jumps_to, resumes}
use Rattle.typing_laws.specs.Typed.{assigns_typed, bounds_typed, exprs_typed, fits_type, is_typed, is_typed_line, tests_typed}
use Rattle.typing_laws.proofs.Copies.{copy_ends}
use Rattle.typing_laws.proofs.Assigning.{assign_ends}
use Rattle.typing_laws.proofs.Callees.{exprs_suited, line_ranks}
use Rattle.typing_laws.proofs.Choices.{case_ends, select_ends}
use Rattle.typing_laws.proofs.Counting.{for_ends, next_ends}
use Rattle.typing_laws.proofs.Ends.{Ends, ends_from, ends_weaker, keeps_self, then_ends}
use Rattle.typing_laws.proofs.Frames.{frame_handling, frame_keeping, frame_later, frame_resumed}
use Rattle.typing_laws.proofs.Lines.{Good, IsFine, IsIn, KeepsAt, call_statement, condition_ends, goes_by, in_later, leads, never_nowhere, print_ends, taken_same, fine_type}
use Rattle.typing_laws.proofs.Places.{keeps_same}
use Rattle.typing_laws.proofs.Extents.{line_resizes}
use Rattle.typing_laws.proofs.Flat.{Stored, array_named, stored_of, no_set, Copied}
use Rattle.typing_laws.proofs.Resizing.{erase_ends, redim_ends}
use Rattle.typing_laws.specs.Frames.{Footprint, Ground, ground}

-- ---- the expressions of lines

items_covered : (uses : Uses) (items : List CaseItem) (es : List Expr) → covers_items uses items es ≡ true → list_all (covers_expr uses) es ≡ true
items_covered uses [] [] h = refl
items_covered uses [] (e ∷ es) h = absurd (true≢false (sym h))
items_covered uses (case_value y ∷ items) [] h = absurd (true≢false (sym h))
items_covered uses (case_value y ∷ items) (e ∷ es) h =
    let a = both_true (covers_expr uses e) (covers_items uses items es) h in
    and_true (covers_expr uses e) (list_all (covers_expr uses) es) a.0 (items_covered uses items es a.1)
items_covered uses (case_range y z ∷ items) [] h = absurd (true≢false (sym h))
items_covered uses (case_range y z ∷ items) (d ∷ []) h = absurd (true≢false (sym h))
items_covered uses (case_range y z ∷ items) (d ∷ e ∷ es) h =
    let a = both_true (covers_expr uses d) (covers_expr uses e && covers_items uses items es) h in
    let b = both_true (covers_expr uses e) (covers_items uses items es) a.1 in
    and_true (covers_expr uses d) (covers_expr uses e && list_all (covers_expr uses) es) a.0
    (and_true (covers_expr uses e) (list_all (covers_expr uses) es) b.0 (items_covered uses items es b.1))
items_covered uses (case_is op y ∷ items) [] h = absurd (true≢false (sym h))
items_covered uses (case_is op y ∷ items) (e ∷ es) h =
    let a = both_true (is_comparison op) (covers_expr uses e && covers_items uses items es) h in
    let b = both_true (covers_expr uses e) (covers_items uses items es) a.1 in
    and_true (covers_expr uses e) (list_all (covers_expr uses) es) b.0 (items_covered uses items es b.1)

step_covered : (uses : Uses) (ty : Ty) (es : List Expr) → covers_step uses ty es ≡ true → list_all (covers_expr uses) es ≡ true
step_covered uses ty [] h = refl
step_covered uses ty (s ∷ []) h = and_true (covers_expr uses s) true (both_true (is_same_type ty (type_at s)) (covers_expr uses s) h).1 refl
step_covered uses ty (s ∷ t ∷ es) h = absurd (true≢false (sym h))

counting_covered : (uses : Uses) (es : List Expr) → covers_counting uses es ≡ true → list_all (covers_expr uses) es ≡ true
counting_covered uses [] h = refl
counting_covered uses (e ∷ []) h = absurd (true≢false (sym h))
counting_covered uses (e ∷ start ∷ []) h = absurd (true≢false (sym h))
counting_covered uses (e ∷ start ∷ limit ∷ es) h =
    let a = both_true (covers_counter uses e) (covers_value uses (type_at e) start && (covers_value uses (type_at e) limit && covers_step uses (type_at e) es)) h in
    let b = both_true (covers_value uses (type_at e) start) (covers_value uses (type_at e) limit && covers_step uses (type_at e) es) a.1 in
    let c = both_true (covers_value uses (type_at e) limit) (covers_step uses (type_at e) es) b.1 in
    let d = both_true (is_variable e) (is_counter (type_at e) && covers_expr uses e) a.0 in
    and_true (covers_expr uses e) (covers_expr uses start && (covers_expr uses limit && list_all (covers_expr uses) es))
    (both_true (is_counter (type_at e)) (covers_expr uses e) d.1).1
    (and_true (covers_expr uses start) (covers_expr uses limit && list_all (covers_expr uses) es)
    (both_true (is_same_type (type_at e) (type_at start)) (covers_expr uses start) b.0).1
    (and_true (covers_expr uses limit) (list_all (covers_expr uses) es) (both_true (is_same_type (type_at e) (type_at limit)) (covers_expr uses limit) c.0).1
    (step_covered uses (type_at e) es c.1)))

module _ (C : Context) (F : Footprint) (X : SourceJob → Memory → Type 0) (calls : CallsKeep C F X) (mentions : List Mention) (w : Memory) (h : IsIn C F w)
    (lines : List tree.Line) (are_lines : slice_get C.runnable.program.bodies C.procedure ≡ Some lines) where
  abbrev D : Declarations
  D = declared C

  abbrev K : Ground
  K = ground (declared C) F

  abbrev uses : Uses
  uses = flat_uses C.runnable.program C.procedure mentions

  abbrev all_uses : Uses
  all_uses = outer_uses C.runnable.program C.procedure mentions

  abbrev Fine : Expr → Type 0
  Fine e = IsFine C F X calls mentions e

  abbrev L : Form → List Expr → Type 0
  L f es = LineLeaves C X f es w

  abbrev Ok : Form → List Expr → Type 0
  Ok f es = Ends K (Good C F) (L f es) w (form_does C f es w)

  fine_of : (es : List Expr) → list_all (covers_expr uses) es ≡ true → list_all is_formed es ≡ true → list_all (is_typed D) es ≡ true
      → Each (CallsAreSuited C.runnable) es → Each Fine es
  fine_of [] c f t s = tt
  fine_of (e ∷ es) c f t s = (
    record {
      covers = all_first (covers_expr uses) e es c;
      formed = all_first is_formed e es f;
      typed = all_first (is_typed D) e es t;
      suited = s.0;
    },
    fine_of es (all_rest (covers_expr uses) e es c) (all_rest is_formed e es f) (all_rest (is_typed D) e es t) s.1,
  )

  on_ends : (f : Form) (es : List Expr) → Ends K (Good C F) (L f es) w (goes_on C w)
  on_ends f es = leads C F (L f es) w C.aims.after h

  -- ---- jumps

  label_ends : (f : Form) (es : List Expr) (l : Label6) → jumps_to f ≡ Some l → (go : ℕ → Does SourceFrame) → ((n : ℕ) → Ends K (Good C F) (L f es) w (go n w))
      → Ends K (Good C F) (L f es) w (to_label C l go w)
  label_ends f es l is go ends = by (line_of_label C l) refl
    where
      by : (o : Option ℕ) → line_of_label C l ≡ o → Ends K (Good C F) (L f es) w (some_of o go w)
      by None e = no_label f es w l is e
      by (Some n) e = ends n

  handles_end : (f : Form) (es : List Expr) (hd : Handler) → Ends K (Good C F) (L f es) w (handles_by C hd w)
  handles_end f es hd =
      let k = keeps_same K w (set_err 0 w) refl refl refl refl in
      (k, frame_handling F C.runnable C.procedure (set_err 0 w) C.frame (frame_later F C.runnable C.procedure w (set_err 0 w) C.frame k h.frame) hd C.aims.after)

  resumed_to : (f : Form) (es : List Expr) (n : ℕ) → Ends K (Good C F) (L f es) w (gives [] (resumed_at n C.frame) (set_err 0 w))
  resumed_to f es n =
      let k = keeps_same K w (set_err 0 w) refl refl refl refl in
      (k, frame_resumed F C.runnable C.procedure (set_err 0 w) C.frame (frame_later F C.runnable C.procedure w (set_err 0 w) C.frame k h.frame) n)

  resume_ends : (f : Form) (es : List Expr) → resumes f ≡ true → (place : SourceLine → ℕ)
      → Ends K (Good C F) (L f es) w
      (if_active (idle_machine C.runnable) C.frame C.frame.active
      (some_of (line_at (idle_machine C.runnable) C.procedure C.frame.resume) (behind_error place C.frame)) w)
  resume_ends f es is place = by C.frame.active refl
    where
      at : (active : C.frame.active ≡ true) (l : SourceLine) → line_at (idle_machine C.runnable) C.procedure C.frame.resume ≡ Some l → (b : Bool) → l.tests ≡ b
          → Ends K (Good C F) (L f es) w (cond b (outside []) (gives [] (resumed_at (place l) C.frame) (set_err 0 w)))
      at active l stands true e = resumes_at_head f es w l is active stands e
      at active l stands false e = resumed_to f es (place l)

      by : (b : Bool) → C.frame.active ≡ b
          → Ends K (Good C F) (L f es) w
          (if_active (idle_machine C.runnable) C.frame b
          (some_of (line_at (idle_machine C.runnable) C.procedure C.frame.resume) (behind_error place C.frame)) w)
      by false e = keeps_self K w
      by true e =
          let s = h.frame.error e in
          subst (λ o. Ends K (Good C F) (L f es) w (some_of o (behind_error place C.frame) (set_err 0 w))) (sym s.1) (at e s.0 s.1 s.0.tests refl)

  resume_to_label : (f : Form) (es : List Expr) (n : ℕ)
      → Ends K (Good C F) (L f es) w (if_active (idle_machine C.runnable) C.frame C.frame.active (λ v. gives [] (resumed_at n C.frame) v) w)
  resume_to_label f es n = by C.frame.active
    where
      by : (b : Bool) → Ends K (Good C F) (L f es) w (if_active (idle_machine C.runnable) C.frame b (λ v. gives [] (resumed_at n C.frame) v) w)
      by false = keeps_self K w
      by true = resumed_to f es n

  -- an Exit of the procedure
  leaves_procedure : (f : Form) (es : List Expr) → Ends K (Good C F) (L f es) w (goes_to C C.aims.procedure_end (set_err 0 w))
  leaves_procedure f es =
      let k = keeps_same K w (set_err 0 w) refl refl refl refl in
      ends_from K (Good C F) (L f es) w (set_err 0 w) (goes_to C C.aims.procedure_end (set_err 0 w)) k
      (leads C F (L f es) (set_err 0 w) C.aims.procedure_end (in_later C F w (set_err 0 w) k h))

  exits : (kind : ExitKind) (es : List Expr) → Ok (source.exit kind) es
  exits leaving.Sub es = leaves_procedure (source.exit leaving.Sub) es
  exits leaving.Function es = leaves_procedure (source.exit leaving.Function) es
  exits leaving.Property es = leaves_procedure (source.exit leaving.Property) es
  exits leaving.For es = goes_by C F (L (source.exit leaving.For) es) w h (exit_to C.aims leaving.For) (λ e. exit_outside leaving.For es w e)
  exits leaving.Do es = goes_by C F (L (source.exit leaving.Do) es) w h (exit_to C.aims leaving.Do) (λ e. exit_outside leaving.Do es w e)

  some_line : (n : ℕ) (E : Type 0) → ◌≡◌ {A = Option ℕ} (Some n) None → E
  some_line n E e = absurd (cc e)

  -- ---- ReDim and Erase

  -- what changes arrays, and goes on
  arrays_end : (E : Type 0) (r : Outcome Memory Unit) → Ends K (λ v u. Unit {0}) E w r → Ends K (Good C F) E w (when_done C r)
  arrays_end E r ends =
      then_ends K (λ v u. Unit {0}) (Good C F) E w r (λ x v. goes_on C v) ends (λ o u v one k t. leads C F E v C.aims.after (in_later C F w v k h))

  -- ---- all forms

  -- a line of one condition
  test_ends : (f : Form) (e : Expr) (m n : Option ℕ) → has_condition f ≡ true → covers_expr uses e ≡ true
      → list_all is_formed (e ∷ []) ≡ true → list_all (is_typed D) (e ∷ []) ≡ true → Each (CallsAreSuited C.runnable) (e ∷ []) → fits_type types.boolean (type_at e) ≡ true
      → (m ≡ None → L f (e ∷ [])) → (n ≡ None → L f (e ∷ [])) → Ends K (Good C F) (L f (e ∷ [])) w (condition C m n (e ∷ []) w)
  test_ends f e m n is covers formed typed suited test first second =
      condition_ends C F X calls mentions w h (L f (e ∷ [])) m n e (fine_of (e ∷ []) (and_true (covers_expr uses e) true covers refl) formed typed suited).0 test
      (in_condition f e w is) first second

  call_ends : (f : Form) (e : Expr) → covers_called uses e ≡ true → list_all is_formed (e ∷ []) ≡ true → list_all (is_typed D) (e ∷ []) ≡ true
      → Each (CallsAreSuited C.runnable) (e ∷ []) → (Leaves C X e w → L f (e ∷ [])) → Ends K (Good C F) (L f (e ∷ [])) w (when_done C (parts_of C e w))
  call_ends f e covers formed typed suited out =
      then_ends K (λ v p. Unit {0}) (Good C F) (L f (e ∷ [])) w (parts_of C e w) (λ p v. goes_on C v)
      (ends_weaker K (λ v p. Unit {0}) (Leaves C X e w) (L f (e ∷ [])) w (parts_of C e w) out
      (call_statement C F X calls mentions w h e covers (all_first is_formed e [] formed) (all_first (is_typed D) e [] typed) suited.0))
      (λ o p v one k t. leads C F (L f (e ∷ [])) v C.aims.after (in_later C F w v k h))

  form_ends : (f : Form) (es : List Expr) → covers_form uses f es ≡ true → is_no_with f ≡ true → assigns_typed f es ≡ true → tests_typed f es ≡ true → bounds_typed D f es ≡ true
      → list_all has_rank (flat_map (resize_rank D) (resized_by f es)) ≡ true → list_all is_formed es ≡ true
      → exprs_typed D f es ≡ true → Each (IsSuited C.runnable) (used_nodes f es)
      → covers_part C.runnable.program C.procedure f es (head_line lines C.aims.own) ≡ true → IsAimed C f → KeepsAt C F f es → Ok f es
  form_ends (source.assign target value) (to ∷ e ∷ []) c b a t bt rk f ty s p g k =
      assigned (stored_of all_uses to e c)
    where
      assigned : Stored all_uses to e ⊎ Copied all_uses to e → Ok (source.assign target value) (to ∷ e ∷ [])
      assigned (inr x) = copy_ends C F X calls mentions w h (L (source.assign target value) (to ∷ e ∷ [])) to e x.user x.same x.target x.value
      assigned (inl x) =
          let fine = fine_of (to ∷ e ∷ []) (and_true (covers_expr uses to) (covers_expr uses e && true) x.target (and_true (covers_expr uses e) true x.value refl)) f ty
          (exprs_suited C.runnable (to ∷ e ∷ []) s) in
          assign_ends C F X calls mentions w h (L (source.assign target value) (to ∷ e ∷ [])) to e x.kind fine.0 fine.1.0
          (taken_same (type_at to) (type_at e) (fine_type C F X calls mentions to fine.0) (fine_type C F X calls mentions e fine.1.0) a)
          (λ l. in_assigned target value to e w l) (λ o y v one l. in_target target value to e w v o y one l)
  form_ends (source.set target value) es c b a t bt rk f ty s p g k = absurd (no_set all_uses es c)
  form_ends (source.call callee) (e ∷ []) c b a t bt rk f ty s p g k =
      call_ends (source.call callee) e c f ty (exprs_suited C.runnable (e ∷ []) s) (λ l. in_call callee e w l)
  form_ends (source.invoke callee args) (e ∷ []) c b a t bt rk f ty s p g k =
      call_ends (source.invoke callee args) e c f ty (exprs_suited C.runnable (e ∷ []) s) (λ l. in_invoked callee args e w l)
  form_ends (source.debug_print items ended) es c b a t bt rk f ty s p g k =
      print_ends C F X calls mentions w h (L (source.debug_print items ended) es) ended es (fine_of es c f ty (exprs_suited C.runnable es s))
      (λ l. in_items items ended es w l) (λ o r v one long. at_print items ended es w v o r one long)
  form_ends (source.if_head x) (e ∷ []) c b a t bt rk f ty s p g k =
      test_ends (source.if_head x) e (Some C.aims.after) C.aims.otherwise refl c f ty (exprs_suited C.runnable (e ∷ []) s) t (some_line C.aims.after _)
      (λ o. never_nowhere C (source.if_head x) _ g refl o)
  form_ends (source.line_if x) (e ∷ []) c b a t bt rk f ty s p g k =
      test_ends (source.line_if x) e (Some C.aims.after) C.aims.otherwise refl c f ty (exprs_suited C.runnable (e ∷ []) s) t (some_line C.aims.after _)
      (λ o. never_nowhere C (source.line_if x) _ g refl o)
  form_ends (source.else_if x) (e ∷ []) c b a t bt rk f ty s p g k =
      test_ends (source.else_if x) e (Some C.aims.after) C.aims.otherwise refl c f ty (exprs_suited C.runnable (e ∷ []) s) t (some_line C.aims.after _)
      (λ o. never_nowhere C (source.else_if x) _ g refl o)
  form_ends source.else_line es c b a t bt rk f ty s p g k = on_ends source.else_line es
  form_ends source.end_if es c b a t bt rk f ty s p g k = on_ends source.end_if es
  form_ends (source.select x) (e ∷ []) c b a t bt rk f ty s p g k =
      select_ends C F X calls mentions w h x e (fine_of (e ∷ []) (and_true (covers_expr uses e) true c refl) f ty (exprs_suited C.runnable (e ∷ []) s)).0 k
  form_ends (source.case_line items) es c b a t bt rk f ty s p g k =
      case_ends C F X calls mentions w h items es g c (fine_of es (items_covered uses items es c) f ty (exprs_suited C.runnable es s)) lines are_lines p
  form_ends source.case_else es c b a t bt rk f ty s p g k = on_ends source.case_else es
  form_ends source.end_select es c b a t bt rk f ty s p g k = on_ends source.end_select es
  form_ends (source.for_head counter first last step) es c b a t bt rk f ty s p g k =
      for_ends C F X calls mentions counter first last step w h es c (fine_of es (counting_covered uses es c) f ty (exprs_suited C.runnable es s)) p g k
  form_ends (source.next name) es c b a t bt rk f ty s p g k = next_ends C F X calls mentions name es w h g lines are_lines p
  form_ends source.do_head es c b a t bt rk f ty s p g k = on_ends source.do_head es
  form_ends (source.do_while x) (e ∷ []) c b a t bt rk f ty s p g k =
      test_ends (source.do_while x) e (Some C.aims.after) C.aims.otherwise refl c f ty (exprs_suited C.runnable (e ∷ []) s) t (some_line C.aims.after _)
      (λ o. never_nowhere C (source.do_while x) _ g refl o)
  form_ends (source.do_until x) (e ∷ []) c b a t bt rk f ty s p g k =
      test_ends (source.do_until x) e C.aims.otherwise (Some C.aims.after) refl c f ty (exprs_suited C.runnable (e ∷ []) s) t
      (λ o. never_nowhere C (source.do_until x) _ g refl o) (some_line C.aims.after _)
  form_ends source.loop es c b a t bt rk f ty s p g k = goes_by C F (L source.loop es) w h C.aims.back (λ o. unopened source.loop es w refl o)
  form_ends (source.loop_while x) (e ∷ []) c b a t bt rk f ty s p g k =
      test_ends (source.loop_while x) e C.aims.back (Some C.aims.after) refl c f ty (exprs_suited C.runnable (e ∷ []) s) t
      (λ o. unopened (source.loop_while x) (e ∷ []) w refl o) (some_line C.aims.after _)
  form_ends (source.loop_until x) (e ∷ []) c b a t bt rk f ty s p g k =
      test_ends (source.loop_until x) e (Some C.aims.after) C.aims.back refl c f ty (exprs_suited C.runnable (e ∷ []) s) t (some_line C.aims.after _)
      (λ o. unopened (source.loop_until x) (e ∷ []) w refl o)
  form_ends (source.while_head x) (e ∷ []) c b a t bt rk f ty s p g k =
      test_ends (source.while_head x) e (Some C.aims.after) C.aims.otherwise refl c f ty (exprs_suited C.runnable (e ∷ []) s) t (some_line C.aims.after _)
      (λ o. never_nowhere C (source.while_head x) _ g refl o)
  form_ends source.wend es c b a t bt rk f ty s p g k = goes_by C F (L source.wend es) w h C.aims.back (λ o. unopened source.wend es w refl o)
  form_ends (source.with_head x) es c b a t bt rk f ty s p g k = absurd (true≢false (sym b))
  form_ends source.end_with es c b a t bt rk f ty s p g k = on_ends source.end_with es
  form_ends (source.goto l) es c b a t bt rk f ty s p g k =
      label_ends (source.goto l) es l refl (goes_to C) (λ n. leads C F (L (source.goto l) es) w n h)
  form_ends (source.label l) es c b a t bt rk f ty s p g k = on_ends (source.label l) es
  form_ends (source.on_error_goto l) es c b a t bt rk f ty s p g k =
      label_ends (source.on_error_goto l) es l refl (λ n v. handles_by C (at_line n) v) (λ n. handles_end (source.on_error_goto l) es (at_line n))
  form_ends source.on_error_goto_zero es c b a t bt rk f ty s p g k = handles_end source.on_error_goto_zero es none
  form_ends source.on_error_resume_next es c b a t bt rk f ty s p g k = handles_end source.on_error_resume_next es next_line
  form_ends source.resume es c b a t bt rk f ty s p g k = resume_ends source.resume es refl (λ l. C.frame.resume)
  form_ends source.resume_next es c b a t bt rk f ty s p g k = resume_ends source.resume_next es refl (λ l. l.aims.after)
  form_ends (source.resume_at l) es c b a t bt rk f ty s p g k =
      label_ends (source.resume_at l) es l refl (λ n v. resume_at (idle_machine C.runnable) n C.frame v) (λ n. resume_to_label (source.resume_at l) es n)
  form_ends (source.exit kind) es c b a t bt rk f ty s p g k = exits kind es
  form_ends (source.redim preserve items) es c b a t bt rk f ty s p g k =
      arrays_end (L (source.redim preserve items) es) (redim_does C preserve (resizes items es) w)
      (ends_weaker K (λ v u. Unit {0}) (ResizesLeave C X preserve (resizes items es) w) (L (source.redim preserve items) es) w (redim_does C preserve (resizes items es) w)
      (in_redim preserve items es w)
      (redim_ends C F X calls mentions preserve (resizes items es)
      (line_resizes C F X calls mentions preserve items es c bt rk f (exprs_suited C.runnable es s)) w h))
  form_ends (source.erase target) (e ∷ []) c b a t bt rk f ty s p g k =
      arrays_end (L (source.erase target) (e ∷ [])) (then (address_of C e w) (erase C.frame.env))
      (erase_ends C F X calls mentions e (array_named uses e c) w h (L (source.erase target) (e ∷ [])) (λ b one fixed. erases_fixed target e w b one fixed))
  form_ends _ es c b a t bt rk f ty s p g k = absurd (true≢false (sym c))

pub line_ends : (C : Context) (F : Footprint) (X : SourceJob → Memory → Type 0) → CallsKeep C F X → (l : tree.Line) (lines : List tree.Line)
    → slice_get C.runnable.program.bodies C.procedure ≡ Some lines → code_line C.runnable.program C.procedure C.frame.line ≡ Some l → (w : Memory) → IsIn C F w
    → is_flat_line C.runnable.program C.procedure l ≡ true → is_typed_line (declared C) l ≡ true → Each (IsSuited C.runnable) (line_uses l)
    → covers_part C.runnable.program C.procedure l.source.form l.bindings.exprs (head_line lines C.aims.own) ≡ true → has_extents C.runnable.program ≡ true
    → IsAimed C l.source.form → Ends (ground (declared C) F) (Good C F) (LineLeaves C X l.source.form l.bindings.exprs w) w (form_does C l.source.form l.bindings.exprs w)
line_ends C F X calls l lines are_lines stands w h covers typing suited part extents aimed =
    let D : Declarations = declared C in
    let f : Form = l.source.form in
    let es : List Expr = l.bindings.exprs in
    let uses : Uses = flat_uses C.runnable.program C.procedure l.bindings.mentions in
    let fields = list_all (has_field_type D) (line_uses l) in
    let a = both_true (covers_form uses f es) (list_all is_formed es && (is_no_with f && fields)) covers in
    let e = both_true (list_all is_formed es) (is_no_with f && fields) a.1 in
    let b = both_true (assigns_typed f es) (tests_typed f es && (bounds_typed D f es && exprs_typed D f es)) typing in
    let c = both_true (tests_typed f es) (bounds_typed D f es && exprs_typed D f es) b.1 in
    let d = both_true (bounds_typed D f es) (exprs_typed D f es) c.1 in
    let line : nth_line lines C.frame.line ≡ Some l = sym (ap (λ (o : Option (List tree.Line)). numbered o C.frame.line) are_lines) ∙ stands in
    form_ends C F X calls l.bindings.mentions w h lines are_lines f es a.0 (both_true (is_no_with f) fields e.1).0 b.0 c.0 d.0
    (line_ranks C.runnable.program C.procedure C.frame.line lines l are_lines line extents) e.0 d.1 suited part aimed
    (λ v k n t i. frame_keeping F C.runnable C.procedure v C.frame t k n l stands i)
