-- Covered lines do the same as what is written for them.
use Rattle.std.proofs.Common.{◌≡◌, ◌∙◌, refl, sym, ap, subst, ℕ, Bool, true, ◌&&◌, Option, Some, List, [], ◌∷◌, ◌++◌, codes, true≢false, map}
use Rattle.std.specs.List.{Contains, list_all}
use Rattle.std.proofs.lemmas.List.Elements.{Contains-push}
use Rattle.vb_tree.specs.declared.form_parts.Label6.{Label6}
use Rattle.vb_tree.specs.Tree.{Form}
use Rattle.vb_tree.specs.Tree as source_form
use Rattle.bound_tree.specs.Labels.{Label, labels}
use Rattle.bound_tree.specs.Tree.{Expr, Line, typed, call, library, err_raise, err_clear}
use Rattle.bound_facts.proofs.Chains.{both_true}
use Rattle.bound_facts.specs.Node.{declared_at, type_at}
use Rattle.bound_facts.specs.Parts.{line_uses, resizes}
use Rattle.bound_tree.specs.Targets.{with_round}
use Rattle.net_tree.specs.Tree as net
use Rattle.run_base.specs.Frames.{Handler, none, next_line, at_line, to_line}
use Rattle.run_base.specs.Machines.{go, handled, nth_line}
use Rattle.run_base.specs.Outcomes.{Outcome, gives, then, some_of}
use Rattle.written_trees.specs.Bodies.{inside_procedure}
use Rattle.written_trees.specs.Conversions.{one, support_call, two}
use Rattle.written_trees.specs.Exprs.{callee_of, exp_of, passed_of, target_exp}
use Rattle.written_trees.specs.Lines.{assign_line, first_exp, items_exp, jump, print_name, line_of, call_line, as_call, empty_extents, resized_array}
use Rattle.written_trees.specs.Types.{element_type, written_type}
use Rattle.written_trees.specs.Puts as written_puts
use Rattle.written_trees.specs.Names.{Scope}
use Rattle.vb6_run.specs.Arrays.{erase}
use Rattle.vb6_run.specs.Expressions as source
use Rattle.vb6_run.specs.Forms as source_forms
use Rattle.vb6_run.specs.Forms.{SourceLine}
use Rattle.vb6_run.specs.Lines.{goes_if, goes_on, handles_by, let_to, line_of_label, items_text, print, set_to, when_done, with_one, redim_does}
use Rattle.vb6_run.specs.Lines as source_lines
use Rattle.vb6_run.specs.Programs as source_program
use Rattle.vb6_run.specs.Store.{Memory, SourceCalls, SourceFrame}
use Rattle.net_run.specs.Blocks.{condition}
use Rattle.net_run.specs.Expressions as target
use Rattle.net_run.specs.Lines as target_lines
use Rattle.net_run.specs.Lines.{NetFrame, NetLine, NetMachine, scope_of, assignment, at_some, back_if, back_unless, handler_set, if_fails, if_holds, redim_all}
use Rattle.net_run.specs.Making.{Jobs}
use Rattle.net_run.specs.Members.{Code}
use Rattle.net_run.specs.Names as net_names
use Rattle.net_run.specs.Program as target_program
use Rattle.net_run.specs.Store as net_store
use Rattle.run_matches.specs.Upgrades.{Upgrade, runnable_of}
use Rattle.run_matches.specs.Maps.{World}
use Rattle.run_matches.specs.Match.{MemoryMatch}
use Rattle.run_matches.specs.Pledges.{Pledge, Later}
use Rattle.run_matches.specs.Agreeing.{Agrees}
use Rattle.run_matches.specs.Formed.{is_formed}
use Rattle.run_matches.specs.CoveredExprs.{Uses, covers_passed, covers_receiver, uses_in}
use Rattle.run_matches.specs.CoveredLines.{covers_condition, covers_store, covers_form, covers_part, covers_within, head_line, is_within_with, jump_of, resumes, covers_call, covers_called}
use Rattle.run_matches.specs.Frames.{FrameMatch, NextMatch, OwnsAll, frame_pledge, lines_of}
use Rattle.run_matches.specs.Runs.{line_result, CallsAgree}
use Rattle.run_matches.specs.Sites.{site_lines}
use Rattle.run_statements.specs.Elements.{IndexesAgree}
use Rattle.run_statements.specs.Memory.{ArraysAreErased, ArraysAreResized, ElementsAreWritten}
use Rattle.run_statements.specs.Frames.{ArraysAgree, ElementsAgree, ExpressionsAgree, ScalarsAreRead, ScalarsAreWritten, IsOpen, AnyUnits, context_of, ArePlaced, AllCalled, AnyParts, CallsAreMade, demands, AreReadable}
use Rattle.run_statements.specs.Groups.{GroupsAgree, GroupsAreWritten}
use Rattle.run_statements.specs.Kept.{AllSameWays, LinesAgree}
use Rattle.run_statements.specs.Members.{MembersAgree, MembersAreFound, ObjectsAgree}
use Rattle.run_statements.specs.Objects.{ClassesAreWritten}
use Rattle.run_statements.specs.Properties.{PropertiesAreSet, SettersAgree}
use Rattle.run_statements.specs.Written.{Passes, site_scope}
use Rattle.agreeing_laws.specs.Beside.{with_steps}
use Rattle.agreeing_laws.proofs.Agreeing.{agrees_gives, agrees_weaker, then_agrees}
use Rattle.agreeing_laws.proofs.Lasting.{later_now}
use Rattle.agreeing_laws.proofs.Machines.{stepped_agrees, handled_agrees}
use Rattle.row_laws.proofs.Composing.{then_gives}
use Rattle.line_laws.specs.Lasting.{GoOnMatching, SteadyNext, SteadyLinesAgree}
use Rattle.line_laws.proofs.Behind.{handler_at, keeping_at, next_at, placed_at, steady_later}
use Rattle.line_laws.proofs.Bounds.{some_is}
use Rattle.line_laws.proofs.Choices.{case_agrees, select_agrees}
use Rattle.line_laws.proofs.Conditions.{BothLead, condition_agrees}
use Rattle.line_laws.proofs.Counting.{for_agrees}
use Rattle.line_laws.proofs.FrameLater.{frame_later, Keeps}
use Rattle.line_laws.proofs.WithLines.{with_agrees}
use Rattle.line_laws.proofs.Within.{all_contained, node_has}
use Rattle.line_laws.proofs.KeptPlaces.{CanKeep}
use Rattle.line_laws.proofs.Handlers.{Places, handler_agrees, handler_at_agrees, resume_agrees, resume_at_agrees, resume_next_agrees}
use Rattle.line_laws.proofs.Jumps.{exit_agrees, leads}
use Rattle.line_laws.proofs.Boxes.{AnyShown, AgreesAsCall, box_agrees}
use Rattle.line_laws.proofs.Called.{AllIn, line_called, FormCalled}
use Rattle.line_laws.proofs.CallLines.{call_is}
use Rattle.line_laws.proofs.Errors.{clear_agrees, raise_agrees}
use Rattle.line_laws.proofs.Owning.{owns_now}
use Rattle.line_laws.proofs.OwnTargets.{IsOwnTarget, own_target}
use Rattle.line_laws.proofs.Prints.{AnyAddress, print_agrees}
use Rattle.line_laws.proofs.Resizes.{MayStore, erase_agrees, redim_agrees}
use Rattle.line_laws.proofs.Rounds.{next_agrees}
use Rattle.line_laws.proofs.Unkept.{resizing_not_kept}
use Rattle.line_laws.proofs.Assignments.{stored}
use Rattle.line_laws.proofs.Sets.{set_agrees}
use Rattle.line_laws.proofs.Uses.{all_good, good}
use Rattle.run_statements.specs.Autos.{AutosAreSet}

-- ---- forms

abbrev AnyDone : World → source.Parts → Unit {0} → Type 0
AnyDone w x u = Unit {0}

module _ (U : Upgrade) (classes : ClassesAreWritten U) (expressions : ExpressionsAgree U) (calls : CallsAreMade U) (reads : ScalarsAreRead U)
    (scalars : ScalarsAreWritten U) (elements : ElementsAgree U) (indexed : IndexesAgree U) (writes : ElementsAreWritten U) (groups : GroupsAgree U)
    (writes_groups : GroupsAreWritten U) (members : MembersAgree U) (finds : MembersAreFound U) (objects : ObjectsAgree U) (setters : SettersAgree U)
    (sets : PropertiesAreSet U) (autos : AutosAreSet U) (arrays : ArraysAgree U) (resizing : ArraysAreResized U) (erasing : ArraysAreErased U) (K : Pledge) (p q : ℕ) (f : SourceFrame)
    (g : NetFrame)
    (l : SourceLine) (k : NetLine) (c : Code) (T : Scope) (declared : T.declarations ≡ U.program.declarations) (oracle : SourceCalls) (net_oracle : Jobs)
    (is_open : IsOpen (scope_of U.written c g k)) (uses : Uses) (readable : AreReadable U T uses)
    (placed : ArePlaced U p f (scope_of U.written c g k) T uses) (agree : CallsAgree U (Passes U) oracle net_oracle)
    (R : World → SourceFrame → NetFrame → Type 0) (w : World) (h : MemoryMatch U w)
    (F : GoOnMatching U K p f g w) (owns : OwnsAll U K p f) (aims : k.aims ≡ l.aims)
    (next : (n m : ℕ) → m ≡ n → (w1 : World) → Later U K w w1 → R w1 (to_line n f) (to_line m g)) (place : Places U K w R f g) where
  abbrev machine : NetMachine
  machine = target_program.frames_of U.written

  abbrev C : source.Context
  C = context_of U oracle p f l

  abbrev S : net_names.Scope
  S = scope_of U.written c g k

  abbrev Can : Expr → Type 0
  Can e = AllCalled (demands U K p l k (scope_of U.written c g k) T) e

  -- what a written line does
  abbrev does : net.Line → Outcome net_store.Memory NetFrame
  does x = target_lines.form_does machine net_oracle q c S g k x w.net

  after_same : k.aims.after ≡ l.aims.after
  after_same = ap (λ a. a.after) aims

  -- both go on behind the line
  behind : (w1 : World) → Later U K w w1 → Agrees U K w1 R (goes_on C w1.src) (gives [] (to_line k.aims.after g) w1.net)
  behind w1 later = agrees_gives U K w1 R (to_line l.aims.after f) (to_line k.aims.after g) later.match (next l.aims.after k.aims.after after_same w1 later)

  behind_now : Agrees U K w R (goes_on C w.src) (gives [] (to_line k.aims.after g) w.net)
  behind_now = behind w (later_now U K w h)

  -- or to a line, where there is one
  lead : (n m : Option ℕ) → m ≡ n → (w1 : World) → Later U K w w1 → Agrees U K w1 R (goes_if C n w1.src) (at_some g m w1.net)
  lead = leads U K R C g k aims w h next

  otherwise : (w1 : World) → Later U K w w1 → Agrees U K w1 R (goes_if C l.aims.otherwise w1.src) (at_some g k.aims.otherwise w1.net)
  otherwise = lead l.aims.otherwise k.aims.otherwise (ap (λ a. a.otherwise) aims)

  back : (w1 : World) → Later U K w w1 → Agrees U K w1 R (goes_if C l.aims.back w1.src) (at_some g k.aims.back w1.net)
  back = lead l.aims.back k.aims.back (ap (λ a. a.back) aims)

  -- both go on when something is done
  goes : {A B : Type 0} (V : World → A → B → Type 0) (r : Outcome Memory A) (r' : Outcome net_store.Memory B) → Agrees U K w V r r'
      → Agrees U K w R (then r (λ x s. goes_on C s)) (then r' (λ x t. gives [] (to_line k.aims.after g) t))
  goes V r r' x =
      then_agrees U K w V R r r' (λ x s. goes_on C s) (λ x t. gives [] (to_line k.aims.after g) t) h x (λ a b w1 m later. behind w1 later)

  -- both set a handler
  handles : (i : Handler) → Agrees U K w R (handles_by C i w.src) (handler_set g k i w.net)
  handles i = handler_agrees U K R p q oracle f l g w h (F w (later_now U K w h)) place k aims i

  handles_at : (n m : Option ℕ) → m ≡ n
      → Agrees U K w R (some_of n (λ n w. handles_by C (at_line n) w) w.src) (some_of m (λ n w. handler_set g k (at_line n) w) w.net)
  handles_at n m e = handler_at_agrees U K R p q oracle f l g w h (F w (later_now U K w h)) place k aims n m e

  -- a condition with the lines where it holds and where it doesn't
  tested : (m n : Option ℕ) (go : Bool → net_store.Memory → Outcome net_store.Memory NetFrame) → ((w1 : World) → Later U K w w1 → BothLead U K R C m n go w1)
      → (es : List Expr) → AllIn Can es → covers_condition uses es ≡ true → list_all is_formed es ≡ true
      → Agrees U K w R (source_lines.condition C m n es w.src) (then (condition S net_oracle (first_exp T es) w.net) go)
  tested m n go both [] can covers formed = absurd (true≢false (sym covers))
  tested m n go both (e ∷ []) can covers formed =
      condition_agrees U expressions K p f g l k c T declared oracle net_oracle is_open uses readable placed agree R w h (F w (later_now U K w h)) m n go both e can.0
      (good uses e covers (both_true (is_formed e) true formed).0)
  tested m n go both (e ∷ d ∷ es) can covers formed = absurd (true≢false (sym covers))

  assigned : (target value : Expr) → Can target → Can value → covers_store uses (target ∷ value ∷ []) ≡ true → is_formed target ≡ true → is_formed value ≡ true
      → IsOwnTarget U K p f target
      → Agrees U K w R (then (then (source.value_of C value w.src) (let_to C target)) (λ x s. goes_on C s)) (does (assign_line T (target ∷ value ∷ [])))
  assigned to e can_to can covers to_formed formed own =
      let stores : Outcome Memory Unit = then (source.value_of C e w.src) (let_to C to) in
      stored U expressions scalars elements indexed writes groups writes_groups members finds setters sets K p f g l k c T declared oracle net_oracle is_open uses readable placed
      agree w h F owns (λ x. Agrees U K w R (then stores (λ x s. goes_on C s)) (does x)) to e can_to can covers to_formed formed own
      (λ x. goes AnyUnits stores (assignment S net_oracle (exp_of T to) (exp_of T e) w.net) x)
      (λ name x.
      goes AnyUnits stores
      (then (target.address_of S net_oracle (support_call (codes "Put" ++ name) (two (exp_of T e) (exp_of T to))) w.net) (λ a t. gives [] tt t)) x)

  -- a call whose value is let go of
  shown : (r : Outcome Memory source.Parts) (e : net.Exp) → AgreesAsCall U K w S net_oracle r e → Agrees U K w R (then r (λ x s. goes_on C s)) (does (as_call e))
  shown r e x =
      subst (λ z. Agrees U K w R (then r (λ x s. goes_on C s)) (does z)) (sym x.is)
      (goes AnyShown r (then (target.address_of S net_oracle (net.call_of x.callee x.args) w.net) (λ a t. gives [] tt t)) x.agrees)

  -- a call as a line
  called_line : (e : Expr) → Can e → covers_called uses e ≡ true → is_formed e ≡ true
      → Agrees U K w R (then (source.parts_of C e w.src) (λ x s. goes_on C s)) (does (as_call (exp_of T e)))
  called_line (typed ty (call id qualified of args)) can covers formed =
      let t = call id qualified of args in
      let first = both_true (uses.gives id.0) (covers_receiver uses of && covers_passed uses args) covers in
      let both = both_true (covers_receiver uses of) (covers_passed uses args) first.1 in
      let r = source.term_parts C ty t w.src in
      let r' = target.address_of S net_oracle (net.call_of (callee_of T id.0 qualified of) (passed_of T id.0 0 args)) w.net in
      let end = does (net.call (callee_of T id.0 qualified of) (passed_of T id.0 0 args)) in
      subst (λ x. Agrees U K w R (then (source.parts_of C (typed ty t) w.src) (λ x s. goes_on C s)) (does x)) (sym (call_is T ty id qualified of args))
      (subst (λ x. Agrees U K w R (then x (λ x s. goes_on C s)) end) (sym (then_gives r))
      (goes AnyDone r (then r' (λ a t. gives [] tt t))
      (subst (λ x. Agrees U K w AnyDone x (then r' (λ a t. gives [] tt t))) (then_gives r)
      (then_agrees U K w AnyParts AnyDone r r' (λ x s. gives [] x s) (λ a t. gives [] tt t) h
      (calls K w p f g oracle net_oracle l k c T uses ty id qualified of args h (F w (later_now U K w h)) declared is_open readable placed agree can first.0 both.0 both.1 formed)
      (λ x a w1 m later. agrees_gives U K w1 AnyDone x tt later.match tt)))))
  called_line (typed ty (library function args)) can covers formed =
      shown (source.parts_of C (typed ty (library function args)) w.src) (exp_of T (typed ty (library function args)))
      (box_agrees U expressions K p f g l k c T declared oracle net_oracle is_open uses readable placed agree w h (F w (later_now U K w h)) ty
      (library function args) can covers formed)
  called_line (typed ty (err_raise e)) can covers formed =
      shown (source.parts_of C (typed ty (err_raise e)) w.src) (exp_of T (typed ty (err_raise e)))
      (raise_agrees U expressions K p f g l k c T declared oracle net_oracle is_open uses readable placed agree w h (F w (later_now U K w h)) ty e can covers formed)
  called_line (typed ty err_clear) can covers formed =
      shown (source.parts_of C (typed ty err_clear) w.src) (exp_of T (typed ty err_clear))
      (clear_agrees U expressions K p f g l k c T declared oracle net_oracle is_open uses readable placed agree w h (F w (later_now U K w h)) ty)
  called_line (typed ty _) can covers formed = absurd (true≢false (sym covers))

  calls_agree : (es : List Expr) → AllIn Can es → covers_call uses es ≡ true → list_all is_formed es ≡ true
      → Agrees U K w R (with_one es (λ e w. when_done C (source.parts_of C e w)) w.src) (does (call_line T es))
  calls_agree [] can covers formed = absurd (true≢false (sym covers))
  calls_agree (e ∷ []) can covers formed = called_line e can.0 covers (both_true (is_formed e) true formed).0
  calls_agree (e ∷ d ∷ es) can covers formed = absurd (true≢false (sym covers))

  pub form_agrees : (ls : List (Option Label)) (form : Form) (es : List Expr) → FormCalled (demands U K p l k (scope_of U.written c g k) T) form es
      → covers_form uses form es ≡ true → list_all is_formed es ≡ true
      → ((a : Label6) → jump_of form ≡ Some a → target_lines.target_of c (jump ls a) ≡ line_of_label C a)
      → MayStore U K p f form es → Keeps U K p f g R w form es
      → covers_part U.program p form es (head_line (lines_of U p) l.aims.own) ≡ true → (resumes form ≡ true → AllSameWays U p q)
      → Agrees U K w R (source_forms.form_does C form es w.src) (does (line_of T ls form es))
  form_agrees ls (source_form.assign to value) [] can covers formed found may keep stands ways = absurd (true≢false (sym covers))
  form_agrees ls (source_form.assign to value) (x ∷ []) can covers formed found may keep stands ways = absurd (true≢false (sym covers))
  form_agrees ls (source_form.assign to value) (x ∷ y ∷ []) can covers formed found may keep stands ways =
      let first : (is_formed x ≡ true) × (list_all is_formed (y ∷ []) ≡ true) = both_true (is_formed x) (list_all is_formed (y ∷ [])) formed in
      assigned x y can.0 can.1.0 covers first.0 (both_true (is_formed y) true first.1).0 (may.own x (Contains-push [] x))
  form_agrees ls (source_form.assign to value) (x ∷ y ∷ z ∷ es) can covers formed found may keep stands ways = absurd (true≢false (sym covers))
  form_agrees ls (source_form.set to value) [] can covers formed found may keep stands ways = absurd (true≢false (sym covers))
  form_agrees ls (source_form.set to value) (x ∷ []) can covers formed found may keep stands ways = absurd (true≢false (sym covers))
  form_agrees ls (source_form.set to value) (x ∷ y ∷ []) can covers formed found may keep stands ways =
      goes AnyUnits (then (source.value_of C y w.src) (set_to C x)) (assignment S net_oracle (target_exp T x) (exp_of T y) w.net)
      (set_agrees U expressions groups writes_groups members finds setters sets autos K p f g l k c T declared oracle net_oracle is_open uses readable placed
      agree w h F owns x y
      can.0 can.1.0 covers (both_true (is_formed x) (list_all is_formed (y ∷ [])) formed).0
      (both_true (is_formed y) true (both_true (is_formed x) (list_all is_formed (y ∷ [])) formed).1).0 (may.own x (Contains-push [] x)))
  form_agrees ls (source_form.set to value) (x ∷ y ∷ z ∷ es) can covers formed found may keep stands ways = absurd (true≢false (sym covers))
  form_agrees ls (source_form.debug_print items ended) es can covers formed found may keep stands ways =
      goes AnyUnits (then (items_text C es w.src) (print ended))
      (then (target.address_of S net_oracle (support_call (print_name ended) (one (items_exp T es))) w.net) (λ a t. gives [] tt t))
      (put_agrees (then (items_text C es w.src) (print ended))
      (target.address_of S net_oracle (support_call (print_name ended) (one (items_exp T es))) w.net)
      (print_agrees U expressions K p f g l k c T declared oracle net_oracle is_open uses readable placed agree w h F ended es can (all_good uses es covers formed)))
    where
      put_agrees : (r : Outcome Memory Unit) (r' : Outcome net_store.Memory net_store.Address) → Agrees U K w AnyAddress r r'
          → Agrees U K w AnyUnits r (then r' (λ a t. gives [] tt t))
      put_agrees r r' x =
          subst (λ z. Agrees U K w AnyUnits z (then r' (λ a t. gives [] tt t))) (then_gives r)
          (then_agrees U K w AnyAddress AnyUnits r r' (λ u s. gives [] u s) (λ a t. gives [] tt t) h x
          (λ u a w1 m later. agrees_gives U K w1 AnyUnits u tt later.match tt))
  form_agrees ls (source_form.if_head e) es can covers formed found may keep stands ways =
      tested (Some l.aims.after) l.aims.otherwise (if_holds g k) (λ w1 x. (behind w1 x, otherwise w1 x)) es can covers formed
  form_agrees ls (source_form.line_if e) es can covers formed found may keep stands ways =
      tested (Some l.aims.after) l.aims.otherwise (if_holds g k) (λ w1 x. (behind w1 x, otherwise w1 x)) es can covers formed
  form_agrees ls (source_form.else_if e) es can covers formed found may keep stands ways =
      tested (Some l.aims.after) l.aims.otherwise (if_holds g k) (λ w1 x. (behind w1 x, otherwise w1 x)) es can covers formed
  form_agrees ls source_form.else_line es can covers formed found may keep stands ways = behind_now
  form_agrees ls source_form.end_if es can covers formed found may keep stands ways = behind_now
  form_agrees ls (source_form.select e) [] can covers formed found may keep stands ways = absurd (true≢false (sym covers))
  form_agrees ls (source_form.select e) (x ∷ []) can covers formed found may keep stands ways =
      select_agrees U expressions K p f g l k c T declared oracle net_oracle is_open uses readable placed agree R w h (F w (later_now U K w h)) e x can.0
      (good uses x covers (both_true (is_formed x) true formed).0) keep after_same
  form_agrees ls (source_form.select e) (x ∷ y ∷ es) can covers formed found may keep stands ways = absurd (true≢false (sym covers))
  form_agrees ls (source_form.case_line items) es can covers formed found may keep stands ways =
      case_agrees U expressions K p f g l k c T declared oracle net_oracle is_open uses readable placed agree R w h F items es can covers formed aims
      (λ w1 x. (behind w1 x, otherwise w1 x)) stands
  form_agrees ls source_form.case_else es can covers formed found may keep stands ways = behind_now
  form_agrees ls source_form.end_select es can covers formed found may keep stands ways = behind_now
  form_agrees ls (source_form.for_head head first last pace) [] can covers formed found may keep stands ways = absurd (true≢false (sym covers))
  form_agrees ls (source_form.for_head head first last pace) (e ∷ []) can covers formed found may keep stands ways = absurd (true≢false (sym covers))
  form_agrees ls (source_form.for_head head first last pace) (e ∷ start ∷ []) can covers formed found may keep stands ways = absurd (true≢false (sym covers))
  form_agrees ls (source_form.for_head head first last pace) (e ∷ start ∷ limit ∷ steps) can covers formed found may keep stands ways =
      for_agrees U expressions scalars K p f g l k c T declared oracle net_oracle is_open uses readable placed agree R w h F owns aims head first last pace e start
      limit steps can.1 covers formed keep stands
  form_agrees ls (source_form.next name) es can covers formed found may keep stands ways =
      next_agrees U reads scalars K p f g l k oracle R w h F owns aims (λ w1 x. (back w1 x, behind w1 x)) name es stands
  form_agrees ls source_form.do_head es can covers formed found may keep stands ways = behind_now
  form_agrees ls (source_form.do_while e) es can covers formed found may keep stands ways =
      tested (Some l.aims.after) l.aims.otherwise (if_holds g k) (λ w1 x. (behind w1 x, otherwise w1 x)) es can covers formed
  form_agrees ls (source_form.do_until e) es can covers formed found may keep stands ways =
      tested l.aims.otherwise (Some l.aims.after) (if_fails g k) (λ w1 x. (otherwise w1 x, behind w1 x)) es can covers formed
  form_agrees ls source_form.loop es can covers formed found may keep stands ways = back w (later_now U K w h)
  form_agrees ls (source_form.loop_while e) es can covers formed found may keep stands ways =
      tested l.aims.back (Some l.aims.after) (back_if g k) (λ w1 x. (back w1 x, behind w1 x)) es can covers formed
  form_agrees ls (source_form.loop_until e) es can covers formed found may keep stands ways =
      tested (Some l.aims.after) l.aims.back (back_unless g k) (λ w1 x. (behind w1 x, back w1 x)) es can covers formed
  form_agrees ls (source_form.while_head e) es can covers formed found may keep stands ways =
      tested (Some l.aims.after) l.aims.otherwise (if_holds g k) (λ w1 x. (behind w1 x, otherwise w1 x)) es can covers formed
  form_agrees ls source_form.wend es can covers formed found may keep stands ways = back w (later_now U K w h)
  form_agrees ls (source_form.with_head head) [] can covers formed found may keep stands ways = absurd (true≢false (sym covers))
  form_agrees ls (source_form.with_head head) (typed ty tm ∷ []) can covers formed found may keep stands ways =
      with_agrees U classes groups objects K p f g l k c T declared oracle net_oracle is_open uses readable placed agree R w h (F w (later_now U K w h)) owns aims head
      ty tm can.0 covers (both_true (is_formed (typed ty tm)) true formed).0 keep
  form_agrees ls (source_form.with_head head) (x ∷ y ∷ es) can covers formed found may keep stands ways = absurd (true≢false (sym covers))
  form_agrees ls source_form.end_with es can covers formed found may keep stands ways = behind_now
  form_agrees ls (source_form.goto a) es can covers formed found may keep stands ways =
      lead (line_of_label C a) (target_lines.target_of c (jump ls a)) (found a refl) w (later_now U K w h)
  form_agrees ls (source_form.label a) es can covers formed found may keep stands ways = behind_now
  form_agrees ls (source_form.on_error_goto a) es can covers formed found may keep stands ways =
      handles_at (line_of_label C a) (target_lines.target_of c (jump ls a)) (found a refl)
  form_agrees ls source_form.on_error_goto_zero es can covers formed found may keep stands ways = handles none
  form_agrees ls source_form.on_error_resume_next es can covers formed found may keep stands ways = handles next_line
  form_agrees ls source_form.resume es can covers formed found may keep stands ways =
      resume_agrees U K R p q oracle f l g w h (F w (later_now U K w h)) place (ways refl)
  form_agrees ls source_form.resume_next es can covers formed found may keep stands ways =
      resume_next_agrees U K R p q oracle f l g w h (F w (later_now U K w h)) place (ways refl)
  form_agrees ls (source_form.resume_at a) es can covers formed found may keep stands ways =
      resume_at_agrees U K R p q oracle f l g w h (F w (later_now U K w h)) place (line_of_label C a) (target_lines.target_of c (jump ls a)) (found a refl)
  form_agrees ls (source_form.exit kind) es can covers formed found may keep stands ways = exit_agrees U K R C g k aims w h next kind
  form_agrees ls (source_form.call callee) es can covers formed found may keep stands ways = calls_agree es can covers formed
  form_agrees ls (source_form.invoke callee args) es can covers formed found may keep stands ways = calls_agree es can covers formed
  form_agrees ls (source_form.redim preserve items) es can covers formed found may keep stands ways =
      goes AnyUnits (redim_does C preserve (resizes items es) w.src) (redim_all S net_oracle preserve (map (resized_array T) (resizes items es)) w.net)
      (redim_agrees U expressions arrays resizing erasing K p f g l k c T declared oracle net_oracle is_open uses readable placed agree owns w h F preserve items
      es can formed covers may.fits (λ e m. record { unkept = may.unkept e m; own = may.own e m }))
  form_agrees ls (source_form.erase target) [] can covers formed found may keep stands ways = absurd (true≢false (sym covers))
  form_agrees ls (source_form.erase target) (e ∷ []) can covers formed found may keep stands ways =
      goes AnyUnits (then (source.address_of C e w.src) (erase f.env))
      (assignment S net_oracle (exp_of T e)
      (net.new_array (written_type T (element_type (type_at e))) (empty_extents (written_puts.rank_of T.facts (declared_at T.declarations e)))) w.net)
      (erase_agrees U expressions arrays resizing erasing K p f g l k c T declared oracle net_oracle is_open uses readable placed agree owns w h F e covers
      (record { unkept = may.unkept e (Contains-push [] e); own = may.own e (Contains-push [] e) }))
  form_agrees ls (source_form.erase target) (e ∷ d ∷ es) can covers formed found may keep stands ways = absurd (true≢false (sym covers))
  form_agrees ls _ es can covers formed found may keep stands ways = absurd (true≢false (sym covers))

-- ---- lines

-- A covered line does the same as what is written for it, in frames that go on to match.
pub steady_lines_agree : (U : Upgrade) → ClassesAreWritten U → ExpressionsAgree U → CallsAreMade U → ScalarsAreRead U → ScalarsAreWritten U → ElementsAgree U
    → IndexesAgree U → ElementsAreWritten U → GroupsAgree U → GroupsAreWritten U → MembersAgree U → MembersAreFound U → ObjectsAgree U → SettersAgree U
    → PropertiesAreSet U → AutosAreSet U → ArraysAgree U → ArraysAreResized U → ArraysAreErased U → SteadyLinesAgree U
steady_lines_agree U classes expressions calls reads scalars elements indexed writes groups writes_groups members finds objects setters sets autos arrays resizing
    erasing p s written number turns l c L code opens readable placed own agree can makes makes_at fits remade covers stands w f g at h F given =
    let K : Pledge = frame_pledge U p w f in
    let owns : OwnsAll U K p f = owns_now U p f K w w g (F w (later_now U K w h)) in
    let R : World → SourceFrame → NetFrame → Type 0 = SteadyNext U K p f.me in
    let oracle : SourceCalls = go (source_program.machine_of (runnable_of U)) turns in
    let net_oracle : Jobs = go (target_program.machine_of U.written) turns in
    let T : Scope = inside_procedure (site_scope U s) p in
    let both : (covers_form (uses_in U.program p l.form.bindings.mentions) l.form.source.form l.form.bindings.exprs ≡ true) × (list_all is_formed l.form.bindings.exprs ≡ true) =
    both_true (covers_form (uses_in U.program p l.form.bindings.mentions) l.form.source.form l.form.bindings.exprs) (list_all is_formed l.form.bindings.exprs) covers in
    let after : L.line.aims.after ≡ l.aims.after = ap (λ a. a.after) L.aims in
    let blocks =
    both_true (covers_part U.program p l.form.source.form l.form.bindings.exprs (head_line (lines_of U p) l.aims.own))
    (covers_within U.program p (head_line (lines_of U p) (with_round l.aims)) l.form) stands.in_block in
    let all_within : (d : Expr) → Contains (line_uses l.form) d → is_within_with U.program p (head_line (lines_of U p) (with_round l.aims)) d ≡ true =
    λ d m. all_contained (is_within_with U.program p (head_line (lines_of U p) (with_round l.aims))) (line_uses l.form) d m blocks.1 in
    stepped_agrees U (runnable_of U) U.written K w R
    (λ m. handled (source_program.machine_of (runnable_of U)) f l (source_program.line_does (runnable_of U) oracle p f l m))
    (λ t. handled (target_program.machine_of U.written) g L.line
    (target_lines.line_does U.written (target_program.frames_of U.written) net_oracle written g L.line t))
    h
    (λ j left later.
    let w1 : World = with_steps w j in
    let F1 : GoOnMatching U K p f g w1 = steady_later U K p f g w h F w1 later in
    let now : FrameMatch U K w1 p f g = F w1 later in
    let next : (n m : ℕ) → m ≡ n → (w2 : World) → Later U K w1 w2 → R w2 (to_line n f) (to_line m g) =
    λ n m e w2 more. next_at U K p f g w1 later.match F1 owns w2 more n m e in
    let keep : Keeps U K p f g R w1 l.form.source.form l.form.bindings.exprs =
    λ x y n m e w2 more kept by.
    keeping_at U K p f g w1 later.match F1 owns w2 more x y kept
    (λ z is. subst (λ (i : Line). CanKeep U K p f w2 i.source.form i.bindings.exprs x y)
    (some_is l.form z (sym stands.is_there ∙ ap (nth_line (lines_of U p)) (sym at) ∙ is)) by) n m e in
    handled_agrees U (runnable_of U) U.written K w1 R f g l L.line (λ e. L.tests ∙ e) (next l.aims.after L.line.aims.after after)
    (λ n w2 more. handler_at U K p f g w1 later.match F1 owns w2 more n) now.active now.handler
    (source_program.line_does (runnable_of U) oracle p f l w1.src)
    (target_lines.line_does U.written (target_program.frames_of U.written) net_oracle written g L.line w1.net)
    (subst (λ o. Agrees U K w1 R (source_program.line_does (runnable_of U) oracle p f l w1.src)
    (target_lines.line_in U.written (target_program.frames_of U.written) net_oracle written g L.line o w1.net)) (sym code)
    (subst (λ x. Agrees U K w1 R (source_program.line_does (runnable_of U) oracle p f l w1.src)
    (target_lines.form_does (target_program.frames_of U.written) net_oracle written c (scope_of U.written c g L.line) g L.line x w1.net)) (sym L.form)
    (form_agrees U classes expressions calls reads scalars elements indexed writes groups writes_groups members finds objects setters sets autos arrays resizing
    erasing K p written f g l L.line c T refl oracle net_oracle (opens g L.line now.names)
    (uses_in U.program p l.form.bindings.mentions) readable (placed f g L.line now.names given) agree R w1 later.match F1 owns L.aims next
    (λ n m i j t u d e c w2 more. placed_at U K p f g w1 later.match F1 owns w2 more n m i j t u d e c)
    (labels (site_lines s)) l.form.source.form l.form.bindings.exprs
    (line_called (demands U K p l L.line (scope_of U.written c g L.line) T) (uses_in U.program p l.form.bindings.mentions) l.form both.0
    (λ d m. node_has U K p l L.line (scope_of U.written c g L.line) T d (λ q e. can d q m e w f g L.line now.names)
    (λ class e covered. makes d class m e covered w f g L.line now.names) (λ v e. makes_at d v m e w f g L.line now.names) (fits d m) L.aims (all_within d m)))
    both.0 both.1 stands.label
    (record {
      own = λ e m steady. own_target U p w f e (own steady e m);
      unkept = λ e m element rank is covered. resizing_not_kept U.program p number l.form stands.is_procedure stands.is_there e m element rank is covered;
      fits = remade;
    }) keep blocks.0 stands.ways))))

-- ---- all frames that match go on to match

steady_now : (U : Upgrade) (K : Pledge) (w : World) (p : ℕ) (f : SourceFrame) (g : NetFrame) → MemoryMatch U w → FrameMatch U K w p f g
    → GoOnMatching U K p f g w
steady_now U K w p f g h F w1 l = frame_later U K w w1 p f g h l F

pub lines_agree : (U : Upgrade) → ClassesAreWritten U → ExpressionsAgree U → CallsAreMade U → ScalarsAreRead U → ScalarsAreWritten U → ElementsAgree U
    → IndexesAgree U → ElementsAreWritten U → GroupsAgree U → GroupsAreWritten U → MembersAgree U → MembersAreFound U → ObjectsAgree U → SettersAgree U
    → PropertiesAreSet U → AutosAreSet U → ArraysAgree U → ArraysAreResized U → ArraysAreErased U → LinesAgree U
lines_agree U classes expressions calls reads scalars elements indexed writes groups writes_groups members finds objects setters sets autos arrays resizing erasing p
    s written number turns l c L code opens readable placed own agree can makes makes_at fits remade covers stands w f g at h F given =
    let K : Pledge = frame_pledge U p w f in
    agrees_weaker U K w (SteadyNext U K p f.me) (NextMatch U K p f.me)
    (line_result (source_program.machine_of (runnable_of U)) turns p f l w.src)
    (line_result (target_program.machine_of U.written) turns written g L.line w.net)
    (λ w1 f1 g1 later x.
    record { same_object = x.same_object; frames = x.frames w1 (later_now U K w1 later.match); owns = x.owns })
    (steady_lines_agree U classes expressions calls reads scalars elements indexed writes groups writes_groups members finds objects setters sets autos arrays
    resizing erasing p s written number turns l c L code opens readable placed own agree can makes makes_at fits remade covers stands w f g at h
    (steady_now U K w p f g h F) given)
