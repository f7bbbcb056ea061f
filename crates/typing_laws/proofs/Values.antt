-- All covered expressions, with calls of the library and of procedures and their arguments.
use Rattle.std.proofs.Common.{false, ◌≡◌, refl, sym, ap, ◌∙◌, subst, ℕ, Bool, true, not, ◌&&◌, ◌||◌, true≢false, List, [], Option, Some, None}
use Rattle.std.specs.Prelude.{slice_get, is_some}
use Rattle.std.specs.List.{list_all}
use Rattle.up_base.proofs.Tests.{both_true, not_true}
use Rattle.vb_tree.specs.BoundTree.{Ty}
use Rattle.vb_tree.specs.BoundTree as types
use Rattle.vb_tree.specs.declared.bound.LibCall.{LibCall}
use Rattle.vb_tree.specs.declared.bound.LibCall.TheVariants as lib
use Rattle.vb_tree.specs.declared.declared.ProcId.{ProcId}
use Rattle.vb_tree.specs.declared.declared.VarId.{VarId}
use Rattle.vb_tree.specs.declared.value.Value6.{Value6}
use Rattle.bound_tree.specs.declared.body.Mention.{Mention}
use Rattle.bound_tree.specs.Tree.{Declarations, Procedure, Program, Variable, Expr, typed, Term, call, library, no_object, Exprs, next_expr, Passed}
use Rattle.bound_facts.specs.Locks.{is_same_type}
use Rattle.bound_facts.specs.Node.{type_at}
use Rattle.row_laws.proofs.Composing.{then_assoc}
use Rattle.run_base.specs.Frames.{by_value, by_address}
use Rattle.run_base.specs.Machines.{enters}
use Rattle.run_base.specs.Outcomes.{Outcome, gives, raises, spent, outside, then, first_input}
use Rattle.written_trees.specs.Arguments.{is_reference_owner, takes_reference, takes_reference_at, takes_reference_of, parameter_in}
use Rattle.vb6_run.specs.Expressions.{Context, Parts, no_value, declared, scalar_in, parts_of, term_parts, value_of, scalar_value, args_of, entered, result_parts, library_call, caller, has_byte, asked_text, boxed_text}
use Rattle.vb6_run.specs.Store as store
use Rattle.vb6_run.specs.Store.{Address, root, Memory, SourceGiven}
use Rattle.vb6_run.specs.Values.{Value, scalar}
use Rattle.run_matches.specs.CoveredVariables.{covers_type}
use Rattle.run_matches.specs.CoveredExprs.{Uses, covers_expr, covers_library, covers_term}
use Rattle.run_matches.specs.Covered.{is_plain_kind}
use Rattle.run_matches.specs.Formed.{is_row_of_call, types_of}
use Rattle.typing_laws.specs.Flat.{flat_uses}
use Rattle.typing_laws.specs.Calls.{CallsKeep, EndsAsCall, IsReady, SourceJob}
use Rattle.typing_laws.specs.Frames.{AreGiven, IsGiven, IsReturned, Keeps}
use Rattle.typing_laws.specs.Leaving.{Leaves, PassedLeave, in_library, in_arguments, at_call, in_first}
use Rattle.typing_laws.specs.Typed.{fits_call, fits_parameters, gives_what_it_has}
use Rattle.typing_laws.proofs.Addresses.{seat_later}
use Rattle.typing_laws.proofs.Ends.{Ends, ends_after, ends_weaker, fills_later, keeps_self, then_ends}
use Rattle.typing_laws.proofs.Expressions.{Fits, IsScalarOf, IsTerm, IsTyped, asked_ends, first_text, fits_later, scalar_ends, text_of}
use Rattle.typing_laws.proofs.Plain.{Plain, same_as}
use Rattle.typing_laws.specs.Plain.{IsValue, IsValueOf}
use Rattle.typing_laws.proofs.Wholes.{scalar_of}
use Rattle.typing_laws.proofs.Procedures.{Parts as ProcedureParts, parts_of as procedure_parts}
use Rattle.typing_laws.specs.Frames.{Footprint, Ground, ground}

-- ---- arguments that stay

pub given_later : (K : Ground) (w v : Memory) (o : Option Variable) (g : SourceGiven) → Keeps K w v → IsGiven K w o g → IsGiven K v o g
given_later K w v None g k h = h
given_later K w v (Some y) (by_value x) k h = h
given_later K w v (Some y) (by_address (root d q)) k h = (h.0, h.1, fills_later K w v k q y.ty d h.2)
given_later K w v (Some y) (by_address (store.item e q j path)) k h = (h.0, seat_later K w v y.ty (store.item e q j path) k h.1)
given_later K w v (Some y) (by_address (store.constant x)) k h = h

no : false ≡ true → ⊥
no h = true≢false (sym h)

pub no_arguments : (f : LibCall) (ty : Ty) → covers_library f ≡ true → is_row_of_call f [] ty ≡ true → ⊥
no_arguments f ty c h = by f c h
  where
    and_no : (b : Bool) → b && false ≡ true → ⊥
    and_no true h = no h
    and_no false h = no h

    neither_no : (b c : Bool) → (b && false) || (c && false) ≡ true → ⊥
    neither_no true true h = no h
    neither_no true false h = no h
    neither_no false true h = no h
    neither_no false false h = no h

    by : (f : LibCall) → covers_library f ≡ true → is_row_of_call f [] ty ≡ true → ⊥
    by lib.Len c h = and_no _ h
    by lib.Left c h = and_no _ h
    by lib.Right c h = and_no _ h
    by lib.Mid c h = neither_no _ _ h
    by lib.Trim c h = and_no _ h
    by lib.LTrim c h = and_no _ h
    by lib.RTrim c h = and_no _ h
    by lib.UCase c h = and_no _ h
    by lib.LCase c h = and_no _ h
    by lib.Space c h = and_no _ h
    by lib.Chr c h = and_no _ h
    by lib.Asc c h = and_no _ h
    by lib.InStr c h = and_no _ h
    by lib.Abs c h = and_no _ (both_true _ _ h).1
    by lib.CBool c h = no h
    by lib.CByte c h = no h
    by lib.CInt c h = no h
    by lib.CLng c h = no h
    by lib.CCur c h = no h
    by lib.CStr c h = no h
    by lib.IsEmpty c h = no c
    by lib.UBound c h = no c
    by lib.LBound c h = no c
    by lib.MsgBox c h = and_no _ h
    by lib.InputBox c h = and_no _ h

-- ---- what is known of a procedure that is called

pub record Callee (C : Context) (q : ℕ) (ty : Ty) (args : Passed) : Type 0 where
  pub ready : IsReady C.runnable q
  pub parts : ProcedureParts C.runnable.program q
  pub same : is_same_type ty parts.head.procedure.result ≡ true
  pub fits : fits_parameters (declared C) parts.head.procedure.params args ≡ true

fits_plain : (D : Declarations) (ty : Ty) (args : Passed) (x : Procedure) → is_plain_kind x.kind ≡ true → fits_call D ty args (Some x) ≡ true
    → is_same_type ty x.result && fits_parameters D x.params args ≡ true
fits_plain D ty args x plain h = sym (ap (λ b. not b || (is_same_type ty x.result && fits_parameters D x.params args)) plain) ∙ h

pub callee_of : (C : Context) (q : ℕ) (ty : Ty) (args : Passed) → IsReady C.runnable q → fits_call (declared C) ty args (slice_get (declared C).procs q) ≡ true
    → Callee C q ty args
callee_of C q ty args ready h =
    let p : ProcedureParts C.runnable.program q = procedure_parts C.runnable q ready in
    let x : Procedure = p.head.procedure in
    let b = both_true (is_same_type ty x.result) (fits_parameters (declared C) x.params args)
    (fits_plain (declared C) ty args x p.plain (sym (ap (λ o. fits_call (declared C) ty args o) p.head.is_procedure) ∙ h)) in
    record { ready = ready; parts = p; same = b.0; fits = b.1 }

-- a parameter at a place that takes a reference
pub reference_at : (D : Declarations) (q i : ℕ) (x : Procedure) (y : VarId) (z : Variable) → slice_get D.procs q ≡ Some x → slice_get x.params i ≡ Some y
    → slice_get D.vars y.0 ≡ Some z → takes_reference D q i ≡ true → is_reference_owner z.owner ≡ true
reference_at D q i x y z is param var h =
    sym (ap (λ o. takes_reference_of D (parameter_in o i)) is ∙ ap (λ o. takes_reference_of D o) param ∙ ap takes_reference_at var) ∙ h

-- ---- all expressions

module _ (C : Context) (F : Footprint) (X : SourceJob → Memory → Type 0) (calls : CallsKeep C F X) (mentions : List Mention) where
  abbrev D : Declarations
  D = declared C

  abbrev K : Ground
  K = ground (declared C) F

  abbrev P : Program
  P = C.runnable.program

  abbrev uses : Uses
  uses = flat_uses C.runnable.program C.procedure mentions

  pub covered_type : (e : Expr) → covers_expr uses e ≡ true → covers_type (type_at e) ≡ true
  covered_type (typed ty t) h = (both_true (covers_type ty) (covers_term uses t) h).0

  -- ---- InputBox and MsgBox

  pub input_ends : (w : Memory) → Fits C F w → (ty : Ty) (e : Expr) (rest : Exprs) → covers_type ty ≡ true
      → is_row_of_call lib.InputBox (types_of (next_expr e rest)) ty ≡ true
      → Ends K (IsTyped (type_at e)) (Leaves C X e w) w (value_of C e w)
      → Ends K (IsTerm ty) (Leaves C X (typed ty (library lib.InputBox (next_expr e rest))) w) w (library_call C ty lib.InputBox (next_expr e rest) w)
  input_ends w fits ty e rest c row h =
      let same : types.str ≡ ty = same_as types.str ty c (both_true (is_same_type types.str ty) _ row).0 in
      subst (λ t. Ends K (IsTerm t) (Leaves C X (typed t (library lib.InputBox (next_expr e rest))) w) w (library_call C t lib.InputBox (next_expr e rest) w)) same
      (let L : Type 0 = Leaves C X (typed types.str (library lib.InputBox (next_expr e rest))) w in
      subst (λ r. Ends K (IsTerm types.str) L w r) (then_assoc (parts_of C e w) (scalar_in C e) asked_text)
      (then_ends K (IsScalarOf (type_at e)) (IsTerm types.str) L w (scalar_value C e w) asked_text
      (ends_weaker K (IsScalarOf (type_at e)) (Leaves C X e w) L w (scalar_value C e w)
      (λ l. in_library types.str lib.InputBox (next_expr e rest) w (in_first e rest w l)) (scalar_ends C F e (type_at e) (Leaves C X e w) w h))
      (λ o x v one k p.
      let s = text_of C F X calls mentions (type_at e) x p (first_text C F X calls mentions e rest types.str ty row) in
      subst (λ z. Ends K (IsTerm types.str) L v (asked_text z v)) (sym s.1)
      (asked_ends C F X calls mentions w v e rest o s.0 (list_all has_byte (first_input v.inputs)) refl (one ∙ ap (λ z. gives o z v) s.1)))))

  -- the box is shown, and gives nothing
  pub box_ends : (w : Memory) (ty : Ty) (e : Expr) (rest : Exprs) → is_row_of_call lib.MsgBox (types_of (next_expr e rest)) ty ≡ true
      → Ends K (IsTyped (type_at e)) (Leaves C X e w) w (value_of C e w)
      → Ends K (λ v p. p ≡ no_value) (Leaves C X (typed ty (library lib.MsgBox (next_expr e rest))) w) w (library_call C ty lib.MsgBox (next_expr e rest) w)
  box_ends w ty e rest row h =
      let L : Type 0 = Leaves C X (typed ty (library lib.MsgBox (next_expr e rest))) w in
      subst (λ r. Ends K (λ v p. p ≡ no_value) L w r) (then_assoc (parts_of C e w) (scalar_in C e) boxed_text)
      (then_ends K (IsScalarOf (type_at e)) (λ v p. p ≡ no_value) L w (scalar_value C e w) boxed_text
      (ends_weaker K (IsScalarOf (type_at e)) (Leaves C X e w) L w (scalar_value C e w)
      (λ l. in_library ty lib.MsgBox (next_expr e rest) w (in_first e rest w l)) (scalar_ends C F e (type_at e) (Leaves C X e w) w h))
      (λ o x v one k p.
      let s = text_of C F X calls mentions (type_at e) x p (first_text C F X calls mentions e rest types.nothing ty row) in
      subst (λ z. Ends K (λ v p. p ≡ no_value) L v (boxed_text z v)) (sym s.1) (keeps_self K v, refl)))

  -- ---- calls of procedures

  -- what the parts of a call are
  abbrev pub IsCalled : Procedure → Memory → Parts → Type 0
  IsCalled x w p = (o : Option Value) × (p ≡ result_parts o) × IsReturned D x o

  outcome_ends : (x : Procedure) (E : Type 0) (w : Memory) (q : ℕ) (gs : List SourceGiven) (r : Outcome Memory (Option Value))
      → (X (enters q C.frame.me C.frame.env gs) w → E) → EndsAsCall K X x (enters q C.frame.me C.frame.env gs) w r
      → Ends K (λ v o. IsReturned D x o) E w r
  outcome_ends x E w q gs (gives o y v) leads h = h
  outcome_ends x E w q gs (raises o n v) leads h = h
  outcome_ends x E w q gs (spent o v) leads h = h
  outcome_ends x E w q gs (outside o) leads h = leads h

  pub call_ends : (w : Memory) → Fits C F w → (ty : Ty) (q : ProcId) (qualified : Bool) (args : Passed) (callee : Callee C q.0 ty args)
      → Ends K (λ v gs. AreGiven K v callee.parts.head.procedure.params gs) (PassedLeave C X q.0 0 args w) w (args_of C q.0 0 args w)
      → Ends K (IsCalled callee.parts.head.procedure) (Leaves C X (typed ty (call q qualified no_object args)) w) w
      (term_parts C ty (call q qualified no_object args) w)
  call_ends w fits ty q qualified args callee h =
      let x : Procedure = callee.parts.head.procedure in
      let L : Type 0 = Leaves C X (typed ty (call q qualified no_object args)) w in
      ends_after K (IsCalled x) L w []
      (then (args_of C q.0 0 args w) (λ gs v. then (entered C q.0 caller gs v) (λ o u. gives [] (result_parts o) u)))
      (then_ends K (λ v gs. AreGiven K v x.params gs) (IsCalled x) L w (args_of C q.0 0 args w)
      (λ gs v. then (entered C q.0 caller gs v) (λ o u. gives [] (result_parts o) u))
      (ends_weaker K (λ v gs. AreGiven K v x.params gs) (PassedLeave C X q.0 0 args w) L w (args_of C q.0 0 args w)
      (λ l. in_arguments ty q qualified no_object args w l) h)
      (λ o gs v one k given.
      then_ends K (λ u o. IsReturned D x o) (IsCalled x) L v (entered C q.0 caller gs v) (λ o u. gives [] (result_parts o) u)
      (outcome_ends x L v q.0 gs (entered C q.0 caller gs v) (λ l. at_call ty q qualified no_object args w v o gs one l)
      (calls q.0 x gs v callee.ready callee.parts.head.is_procedure (fits_later C F w v k fits).sound given))
      (λ o2 y u two l returned. (keeps_self K u, (y, refl, returned)))))

  -- a call of a Function as a value
  returned_value : (x : Procedure) (ty : Ty) → covers_type ty ≡ true → is_same_type ty x.result ≡ true → gives_what_it_has (Some x) ≡ true → (o : Option Value)
      → IsReturned D x o → (z : Value6) × (o ≡ Some (scalar ty z)) × Plain ty z
  returned_value x ty c same has (Some y) h =
      let e : ty ≡ x.result = sym (second ty x.result c same) in
      let v : IsValue ty y = scalar_of D ty y c (subst (λ t. IsValueOf D t y) (sym e) h) in
      (v.0, ap Some v.1, v.2)
    where
      second : (s t : Ty) → covers_type s ≡ true → is_same_type s t ≡ true → t ≡ s
      second types.boolean types.boolean d e = refl
      second types.byte types.byte d e = refl
      second types.integer types.integer d e = refl
      second types.long types.long d e = refl
      second types.currency types.currency d e = refl
      second types.str types.str d e = refl
      second _ _ d e = cc
  returned_value x ty c same has None h = absurd (no (sym (unanswered (is_some x.answer) (covers_type x.result) h has) ∙ covered_result ty x.result c same))
    where
      unanswered : (a b : Bool) → a ≡ false → a || not b ≡ true → b ≡ false
      unanswered true b e i = absurd (no (sym e))
      unanswered false b e i = not_true b i

      covered_result : (s t : Ty) → covers_type s ≡ true → is_same_type s t ≡ true → covers_type t ≡ true
      covered_result types.boolean types.boolean d e = refl
      covered_result types.byte types.byte d e = refl
      covered_result types.integer types.integer d e = refl
      covered_result types.long types.long d e = refl
      covered_result types.currency types.currency d e = refl
      covered_result types.str types.str d e = refl
      covered_result _ _ d e = cc

  pub call_value : (w : Memory) (ty : Ty) (t : Term) (x : Procedure) (E : Type 0) → covers_type ty ≡ true → is_same_type ty x.result ≡ true
      → gives_what_it_has (Some x) ≡ true → Ends K (IsCalled x) E w (term_parts C ty t w) → Ends K (IsTerm ty) E w (term_parts C ty t w)
  call_value w ty t x E c same has h = by (term_parts C ty t w) h
    where
      by : (r : Outcome Memory Parts) → Ends K (IsCalled x) E w r → Ends K (IsTerm ty) E w r
      by (gives o p v) h =
          let z = returned_value x ty c same has h.1.0 h.1.2 in
          (h.0, (z.0, h.1.1 ∙ ap result_parts z.1, z.2))
      by (raises o n v) h = h
      by (spent o v) h = h
      by (outside o) h = h
