-- A run of a procedure that can be run keeps the types of what stands, and is outside only where a turn of it leaves.
use Rattle.std.proofs.Common.{◌≡◌, refl, sym, ap, ◌∙◌, subst, ℕ, zero, suc, Bool, true, false, cond, true≢false, List, [], ◌∷◌, map, Option, Some, None}
use Rattle.std.specs.Prelude.{slice_get, is_some}
use Rattle.vb_tree.specs.BoundTree.{Ty}
use Rattle.vb_tree.specs.BoundTree as types
use Rattle.vb_tree.specs.declared.declared.VarId.{VarId}
use Rattle.bound_tree.specs.Targets.{Aims, Step, aims_at, aims_from, aims_of, step_of, steps, with_round}
use Rattle.bound_tree.specs.Tree.{Declarations, Procedure, Program}
use Rattle.bound_tree.specs.Tree as tree
use Rattle.bound_facts.specs.Locks.{is_same_type}
use Rattle.bound_facts.specs.Node.{is_array_type}
use Rattle.run_matches.specs.UserTypes.{is_user}
use Rattle.run_base.specs.Frames.{Handler, none, next_line, at_line, to_line, at_handler}
use Rattle.run_base.specs.Machines.{Line, nth_line, line_in, caught, handled, stepped, line_turn, body_turn, enters, runs, go}
use Rattle.run_base.specs.Machines as machines
use Rattle.run_base.specs.Outcomes.{Output, Outcome, gives, raises, spent, outside, after, found, then, some_of}
use Rattle.vb6_run.specs.Expressions.{Context}
use Rattle.vb6_run.specs.Forms.{SourceLine, SourceMachine, body_of, form_does, with_aims}
use Rattle.vb6_run.specs.Lines.{source_lines}
use Rattle.vb6_run.specs.Programs.{answer_of, entered_as, line_does, machine_of, result_of, run6}
use Rattle.vb6_run.specs.Runnables.{Runnable, declarations_of, variable_address}
use Rattle.vb6_run.specs.Store.{Address, Locked, Memory, SourceFrame, SourceGiven, read, set_err}
use Rattle.vb6_run.specs.Values.{Value}
use Rattle.run_matches.specs.CoveredVariables.{covers_type}
use Rattle.run_matches.specs.CoveredLines.{covers_in_block, covers_part, head_line, covers_within}
use Rattle.run_matches.specs.Covered.{covers_calls, is_answer_of}
use Rattle.typing_laws.specs.Calls.{CallsKeep, EndsAsCall, IsReady, SourceJob}
use Rattle.typing_laws.specs.Frames.{AreGiven, IsPlace, IsReturned, IsSound, IsTypedFrame, Keeps, code_line, numbered}
use Rattle.typing_laws.specs.Leaving.{LineLeaves, RunLeaves, TurnLeaves, at_entry, at_head, behind_entry, behind_line, context_at, started, stepped_to}
use Rattle.typing_laws.specs.Leaving as leaving
use Rattle.typing_laws.specs.Results.{IsRunResult}
use Rattle.typing_laws.specs.Flat.{is_flat, is_flat_line}
use Rattle.typing_laws.specs.Typed.{is_typed_line}
use Rattle.typing_laws.proofs.Callees.{line_suited}
use Rattle.typing_laws.proofs.Ends.{Ends, ends_after, ends_from, ends_weaker, keeps_self, keeps_then, sound_later, then_ends}
use Rattle.typing_laws.proofs.Bindings.{all_given}
use Rattle.typing_laws.proofs.Entries.{answer_belongs, entered_ends}
use Rattle.typing_laws.proofs.Addresses.{AtRoot, at_root}
use Rattle.typing_laws.proofs.Fields.{same_users}
use Rattle.typing_laws.proofs.Wholes.{IsRead, whole_read}
use Rattle.vb_tree.specs.declared.declared.Owner.{Owner}
use Rattle.vb_tree.specs.declared.declared.Owner.TheVariants as owner
use Rattle.written_trees.specs.Arguments.{is_reference_owner}
use Rattle.typing_laws.proofs.Forms.{line_ends}
use Rattle.typing_laws.proofs.Frames.{frame_at, frame_caught, frame_later}
use Rattle.typing_laws.proofs.Lines.{Good, IsIn}
use Rattle.typing_laws.proofs.Places.{all_at, keeps_same, not_none, some_is}
use Rattle.typing_laws.specs.Plain.{IsValueOf}
use Rattle.typing_laws.proofs.Procedures.{Answered, Body, Parts, answer_of_function, parts_of}
use Rattle.typing_laws.proofs.Uses.{answer_single, own_flat}
use Rattle.typing_laws.specs.Frames.{Fills, Footprint, Ground, IsGiven, MayStand, anywhere, footprint_of, ground, is_given_at, is_open, shared_place}
use Rattle.typing_laws.proofs.Frames.{frame_anywhere}
use Rattle.run_base.specs.Positions.{Position, made, whole}
use Rattle.std.proofs.Common.{◌⊎◌, inl, inr, le-leb, ◌||◌}
use Rattle.std.specs.List.{list_any}
use Rattle.bound_tree.specs.Tree.{Variable}
use Rattle.run_base.specs.Frames.{by_value, by_address}
use Rattle.vb6_run.specs.Shapes.{variable_shape}
use Rattle.vb6_run.specs.Store.{root, item, constant}
use Rattle.typing_laws.proofs.Places.{at, fills_by, fills_in, self_same}
use Rattle.up_base.proofs.Tests.{both_true}

-- ---- lines

form_at : (ls : List tree.Line) (aims : List Aims) (k : ℕ) (l : SourceLine) → slice_get (with_aims ls aims) k ≡ Some l → slice_get ls k ≡ Some l.form
form_at [] aims k l e = absurd (not_none e)
form_at (x ∷ ls) [] k l e = absurd (not_none e)
form_at (x ∷ ls) (a ∷ aims) zero l e = ap (λ (m : SourceLine). Some m.form) (some_is e)
form_at (x ∷ ls) (a ∷ aims) (suc k) l e = form_at ls aims k l e

-- where control goes from a line is told by what it is
aims_found : (all : List Step) (n : ℕ) (ls : List tree.Line) (k : ℕ) (l : SourceLine) → slice_get (with_aims ls (aims_from all n (steps (source_lines ls)))) k ≡ Some l
    → (m : ℕ) × (l.aims ≡ aims_at all m (step_of l.form.source.form))
aims_found all n [] k l e = absurd (not_none e)
aims_found all n (x ∷ ls) zero l e =
    (n, subst (λ (m : SourceLine). m.aims ≡ aims_at all n (step_of m.form.source.form)) (some_is e) refl)
aims_found all n (x ∷ ls) (suc k) l e = aims_found all (suc n) ls k l e

body_at : (bodies : List (List tree.Line)) (p : ℕ) (lines : List tree.Line) → slice_get bodies p ≡ Some lines → slice_get (map body_of bodies) p ≡ Some (body_of lines)
body_at [] p lines e = absurd (not_none e)
body_at (x ∷ bodies) zero lines e = ap Some (ap body_of (some_is e))
body_at (x ∷ bodies) (suc p) lines e = body_at bodies p lines e

-- what is known of a line of a covered procedure
record Known (P : Program) (p n : ℕ) (lines : List tree.Line) (l : SourceLine) : Type 0 where
  place : ℕ
  stands : slice_get lines place ≡ Some l.form
  number : n ≡ suc place
  covers : is_flat_line P p l.form ≡ true
  typed : is_typed_line P.declarations l.form ≡ true
  calls : covers_calls P p l.form ≡ true
  part : covers_part P p l.form.source.form l.form.bindings.exprs (head_line lines l.aims.own) ≡ true
  all : List Step
  at : ℕ
  aims : l.aims ≡ aims_at all at (step_of l.form.source.form)

known_line : (P : Program) (p : ℕ) (body : Body P p) (n : ℕ) (l : SourceLine) → nth_line (body_of body.lines) n ≡ Some l → Known P p n body.lines l
known_line P p body zero l e = absurd (not_none e)
known_line P p body (suc k) l e =
    let ls : List tree.Line = body.lines in
    let m : slice_get ls k ≡ Some l.form = form_at ls (aims_of (steps (source_lines ls))) k l e in
    let a = aims_found (steps (source_lines ls)) 1 ls k l e in
    record {
      place = k;
      stands = m;
      number = refl;
      covers = all_at (is_flat_line P p) ls k l.form body.covers m;
      typed = all_at (is_typed_line P.declarations) ls k l.form body.typed m;
      calls = all_at (covers_calls P p) ls k l.form body.calls m;
      part =
          (both_true (covers_part P p l.form.source.form l.form.bindings.exprs (head_line ls l.aims.own))
          (covers_within P p (head_line ls (with_round l.aims)) l.form) (all_at (covers_in_block P p ls) (body_of ls) k l body.blocks e)).0;
      all = steps (source_lines ls);
      at = a.0;
      aims = a.1;
    }

-- ---- what runs end with

abbrev Returned : Declarations → Procedure → Memory → Option Value → Type 0
Returned D x w o = IsReturned D x o

as_call : (K : Ground) (X : SourceJob → Memory → Type 0) (x : Procedure) (job : SourceJob) (w : Memory) (r : Outcome Memory (Option Value))
    → Ends K (Returned K.declarations x) (X job w) w r → EndsAsCall K X x job w r
as_call K X x job w (gives o y v) h = h
as_call K X x job w (raises o n v) h = h
as_call K X x job w (spent o v) h = h
as_call K X x job w (outside o) h = h

answers_itself : (p : ℕ) (o : Owner) → is_answer_of p o ≡ true → is_reference_owner o ≡ false
answers_itself p (owner.Answer q) h = refl
answers_itself p _ h = absurd (true≢false (sym h))

module _ (F : Footprint) (R : Runnable) (x : Procedure) (w : Memory) (E : Type 0) where
  scalar_result : (s u : Ty) → covers_type s ≡ true → is_same_type s u ≡ true → s ≡ u
  scalar_result types.boolean types.boolean d e = refl
  scalar_result types.byte types.byte d e = refl
  scalar_result types.integer types.integer d e = refl
  scalar_result types.long types.long d e = refl
  scalar_result types.currency types.currency d e = refl
  scalar_result types.str types.str d e = refl
  scalar_result _ _ d e = cc

  as_result : (s u : Ty) → (covers_type s ≡ true) ⊎ (is_user s ≡ true) → is_same_type s u ≡ true → s ≡ u
  as_result s u (inl c) e = scalar_result s u c e
  as_result s u (inr h) e = same_users s u h e

  no_array_result : (ty : Ty) → (covers_type ty ≡ true) ⊎ (is_user ty ≡ true) → is_array_type ty ≡ false
  no_array_result (types.array e rank) (inl c) = absurd (true≢false (sym c))
  no_array_result (types.array e rank) (inr u) = absurd (true≢false (sym u))
  no_array_result _ k = refl

  -- the value of a result variable
  returned_at : (y : Variable) (a : Address) → is_array_type y.ty ≡ false → y.ty ≡ x.result → AtRoot R.program F w y a
      → Ends (ground (declarations_of R) F) (Returned (declarations_of R) x) E w (then (read a w) (λ z v. gives [] (Some z) v))
  returned_at y a flat same there =
      let K : Ground = ground (declarations_of R) F in
      let one : IsRead K w there.shape there.position = whole_read K w y.ty there.shape flat there.fits there.position (there.stands, there.inside) in
      let reads : read a w ≡ gives [] one.0 w = ap (λ b. read b w) there.is ∙ ap (λ o. found o w) one.1 in
      subst (λ r. Ends K (Returned (declarations_of R) x) E w (then r (λ z v. gives [] (Some z) v))) (sym reads)
      (keeps_self K w, subst (λ t. IsValueOf (declarations_of R) t one.0) same (there.shape, there.fits, one.2))

-- a procedure that has come to its end
ended : (F : Footprint) (R : Runnable) (p : ℕ) (parts : Parts R.program p) (f : SourceFrame) (w : Memory) (E : Type 0) → IsTypedFrame F R p w f
    → Ends (ground (declarations_of R) F) (Returned (declarations_of R) parts.head.procedure) E w (result_of R p f w)
ended F R p parts f w E t =
    let D : Declarations = declarations_of R in
    let K : Ground = ground D F in
    let x : Procedure = parts.head.procedure in
    subst (λ o. Ends K (Returned (declarations_of R) x) E w (some_of o (λ x w. answer_of R f x.answer w) w)) (sym parts.head.is_procedure) (by x.answer refl)
  where
    at : (a : VarId) (y : Variable) (b : Address) → is_answer_of p y.owner ≡ true → is_flat (declarations_of R) y ≡ true → is_same_type y.ty parts.head.procedure.result ≡ true
        → variable_address (declarations_of R) f a.0 ≡ Some b → IsPlace R.program F w a.0 y b
        → Ends (ground (declarations_of R) F) (Returned (declarations_of R) parts.head.procedure) E w (answer_of R f (Some a) w)
    at a y b own flat same is place =
        let c = answer_single (declarations_of R) p y own flat in
        subst (λ o. Ends (ground (declarations_of R) F) (Returned (declarations_of R) parts.head.procedure) E w (some_of o (λ a w. then (read a w) (λ x w. gives [] (Some x) w)) w)) (sym is)
        (returned_at F R parts.head.procedure w E y b (no_array_result F R parts.head.procedure w E y.ty c)
        (as_result F R parts.head.procedure w E y.ty parts.head.procedure.result c same)
        (at_root R.program F w a.0 y b place (answers_itself p y.owner own)))

    by : (o : Option VarId) → parts.head.procedure.answer ≡ o → Ends (ground (declarations_of R) F) (Returned (declarations_of R) parts.head.procedure) E w (answer_of R f o w)
    by None is = (keeps_self (ground (declarations_of R) F) w, ap is_some is)
    by (Some a) is =
        let y : Answered (declarations_of R) p parts.head.procedure a = answer_of_function (declarations_of R) p parts.head.procedure a parts.head.result is in
        let own = answer_belongs p y.variable.owner y.is_answer in
        let flat : is_flat (declarations_of R) y.variable ≡ true = own_flat R.program p a.0 y.variable parts.variables y.is_variable own in
        let s = t.own a.0 y.variable y.is_variable own flat in
        at a y.variable s.0 y.is_answer flat y.same s.1 s.2

module _ (F : Footprint) (R : Runnable) where
  abbrev D : Declarations
  D = declarations_of R

  abbrev K : Ground
  K = ground (declarations_of R) F

  abbrev M : SourceMachine
  M = machine_of R

  -- with at most so many turns
  abbrev CallsEnd : ℕ → Type 0
  CallsEnd n =
      (q : ℕ) (x : Procedure) (me : Option ℕ) (locked : Locked) (gs : List SourceGiven) (w : Memory) → IsReady R q → slice_get D.procs q ≡ Some x → IsSound K w
      → AreGiven K w x.params gs
      → Ends K (Returned (declarations_of R) x) (RunLeaves R n (enters q me locked gs) w) w (go M n (enters q me locked gs) w)

  abbrev BodiesEnd : ℕ → Type 0
  BodiesEnd n =
      (p : ℕ) (ready : IsReady R p) (f : SourceFrame) (w : Memory) → IsSound K w → IsTypedFrame F R p w f
      → Ends K (Returned (declarations_of R) (parts_of R p ready).head.procedure) (RunLeaves R n (runs p f) w) w (go M n (runs p f) w)

  calls_keep : (n p : ℕ) (f : SourceFrame) (l : SourceLine) → CallsEnd n → CallsKeep (context_at R n p f l) F (RunLeaves R n)
  calls_keep n p f l h q x gs w ready is sound given =
      as_call K (RunLeaves R n) x (enters q f.me f.env gs) w (go M n (enters q f.me f.env gs) w) (h q x f.me f.env gs w ready is sound given)

  same_stepped : (k : ℕ) (w : Memory) → Keeps K w (stepped_to k w)
  same_stepped k w = keeps_same K w (stepped_to k w) refl refl refl refl

  -- ---- one line

  module _ (n : ℕ) (bodies : BodiesEnd n) (p : ℕ) (ready : IsReady R p) (f : SourceFrame) (w : Memory) (sound : IsSound K w) (t : IsTypedFrame F R p w f) (k : ℕ)
      (l : SourceLine) (is_line : machines.line_at M p f.line ≡ Some l) (left : w.left ≡ suc k) where
    abbrev x : Procedure
    x = (parts_of R p ready).head.procedure

    abbrev w1 : Memory
    w1 = stepped_to k w

    abbrev C : Context
    C = context_at R n p f l

    abbrev does : Outcome Memory SourceFrame
    does = form_does C l.form.source.form l.form.bindings.exprs w1

    abbrev E : Type 0
    E = RunLeaves R (suc n) (runs p f) w

    abbrev End : Outcome Memory (Option Value) → Type 0
    End r = Ends K (Returned (declarations_of R) x) E w1 r

    goes_on : (o : List Output) (g : SourceFrame) (v : Memory) → handled M f l does ≡ gives o g v → Keeps K w1 v → IsTypedFrame F R p v g
        → End (after o (go M n (runs p g) v))
    goes_on o g v is keeps typed =
        ends_after K (Returned (declarations_of R) x) E w1 o (go M n (runs p g) v)
        (ends_from K (Returned (declarations_of R) x) E w1 v (go M n (runs p g) v) keeps
        (ends_weaker K (Returned (declarations_of R) x) (RunLeaves R n (runs p g) v) E v (go M n (runs p g) v) (λ h. behind_line p k f g l w v o is_line left is h)
        (bodies p ready g v (sound_later K w v (keeps_then K w w1 v (same_stepped k w) keeps) sound) typed)))

    -- after an error
    caught_goes : (active : Bool) (h : Handler) (tests : Bool) (o : List Output) (e : ℕ) (v : Memory) → does ≡ raises o e v → f.active ≡ active → f.handler ≡ h
        → l.tests ≡ tests → Keeps K w1 v → End (then (caught f l active h o e (set_err e v)) (λ g w. go M n (runs p g) w))
    caught_goes true h tests o e v is a b c keeps = keeps_then K w1 v (set_err e v) keeps (keeps_same K v (set_err e v) refl refl refl refl)
    caught_goes false none tests o e v is a b c keeps = keeps_then K w1 v (set_err e v) keeps (keeps_same K v (set_err e v) refl refl refl refl)
    caught_goes false next_line true o e v is a b c keeps =
        subst (λ z. End (then (cond z (outside o) (gives o (to_line l.aims.after f) (set_err e v))) (λ g w. go M n (runs p g) w))) (sym c)
        (at_head p k e f l w v o is_line left is a b c)
    caught_goes false next_line false o e v is a b c keeps =
        let u : Memory = set_err e v in
        let later : Keeps K w1 u = keeps_then K w1 v u keeps (keeps_same K v u refl refl refl refl) in
        subst (λ z. End (then (cond z (outside o) (gives o (to_line l.aims.after f) u)) (λ g w. go M n (runs p g) w))) (sym c)
        (goes_on o (to_line l.aims.after f) u (ap (λ r. handled M f l r) is ∙ ap (λ z. caught f l z f.handler o e u) a ∙ ap (λ z. caught f l false z o e u) b
        ∙ ap (λ z. cond z (outside o) (gives o (to_line l.aims.after f) u)) c) later
        (frame_at F R p u f (frame_later F R p w u f (keeps_then K w w1 u (same_stepped k w) later) t) l.aims.after))
    caught_goes false (at_line m) tests o e v is a b c keeps =
        let u : Memory = set_err e v in
        let later : Keeps K w1 u = keeps_then K w1 v u keeps (keeps_same K v u refl refl refl refl) in
        goes_on o (at_handler m f) u (ap (λ r. handled M f l r) is ∙ ap (λ z. caught f l z f.handler o e u) a ∙ ap (λ z. caught f l false z o e u) b) later
        (frame_caught F R p u f (frame_later F R p w u f (keeps_then K w w1 u (same_stepped k w) later) t) m l is_line)

    pub line_goes : (r : Outcome Memory SourceFrame) → does ≡ r → Ends K (Good C F) (LineLeaves C (RunLeaves R n) l.form.source.form l.form.bindings.exprs w1) w1 r
        → End (then (handled M f l r) (λ g w. go M n (runs p g) w))
    line_goes (gives o g v) is h = goes_on o g v (ap (λ r. handled M f l r) is) h.0 h.1
    line_goes (raises o e v) is h =
        caught_goes f.active f.handler l.tests o e v is refl refl refl h
    line_goes (spent o v) is h = h
    line_goes (outside o) is h = leaving.at_line p k f l w is_line left (frame_anywhere F R p w f t) h

  -- ---- one turn

  line_turns : (n : ℕ) → CallsEnd n → BodiesEnd n → (p : ℕ) (ready : IsReady R p) (f : SourceFrame) (w : Memory) → IsSound K w → IsTypedFrame F R p w f
      → (o : Option SourceLine) → nth_line (body_of (parts_of R p ready).body.lines) f.line ≡ o
      → Ends K (Returned (declarations_of R) (parts_of R p ready).head.procedure) (RunLeaves R (suc n) (runs p f) w) w (line_turn M (go M n) p f o w)
  line_turns n calls bodies p ready f w sound t None e = ended F R p (parts_of R p ready) f w (RunLeaves R (suc n) (runs p f) w) t
  line_turns n calls bodies p ready f w sound t (Some l) e = by w.left refl
    where
      at_body : machines.line_at M p f.line ≡ Some l
      at_body = ap (λ o. line_in o f.line) (body_at R.program.bodies p (parts_of R p ready).body.lines (parts_of R p ready).body.are_lines) ∙ e

      by : (left : ℕ) → w.left ≡ left
          → Ends K (Returned (declarations_of R) (parts_of R p ready).head.procedure) (RunLeaves R (suc n) (runs p f) w) w
          (stepped M left (λ w. then (handled M f l (line_does R (go M n) p f l w)) (λ g w. go M n (runs p g) w)) w)
      by zero is = keeps_self K w
      by (suc k) is =
          let parts : Parts R.program p = parts_of R p ready in
          let E : Type 0 = RunLeaves R (suc n) (runs p f) w in
          let w1 : Memory = stepped_to k w in
          let C : Context = context_at R n p f l in
          let c : Known R.program p f.line parts.body.lines l = known_line R.program p parts.body f.line l e in
          let stands : code_line R.program p f.line ≡ Some l.form =
          ap (λ (o : Option (List tree.Line)). numbered o f.line) parts.body.are_lines ∙ ap (λ j. nth_line parts.body.lines j) c.number ∙ c.stands in
          let does : Outcome Memory SourceFrame = form_does C l.form.source.form l.form.bindings.exprs w1 in
          let inside : IsIn C F w1 = record {
            sound = sound_later K w w1 (same_stepped k w) sound;
            frame = frame_later F R p w w1 f (same_stepped k w) t;
          } in
          ends_from K (Returned (declarations_of R) parts.head.procedure) E w w1 (then (handled M f l does) (λ g w. go M n (runs p g) w)) (same_stepped k w)
          (line_goes n bodies p ready f w sound t k l at_body is does refl
          (line_ends C F (RunLeaves R n) (calls_keep n p f l calls) l.form parts.body.lines parts.body.are_lines stands w1 inside c.covers c.typed
          (line_suited R p c.place parts.head.procedure parts.body.lines l.form parts.head.is_procedure parts.body.are_lines c.stands c.calls c.covers ready) c.part parts.extents (record { all = c.all; number = c.at; aims = c.aims })))

  bodies_more : (n : ℕ) → CallsEnd n → BodiesEnd n → BodiesEnd (suc n)
  bodies_more n calls bodies p ready f w sound t =
      let parts : Parts R.program p = parts_of R p ready in
      subst (λ o. Ends K (Returned (declarations_of R) parts.head.procedure) (RunLeaves R (suc n) (runs p f) w) w (body_turn M (go M n) p f o w))
      (sym (body_at R.program.bodies p parts.body.lines parts.body.are_lines))
      (line_turns n calls bodies p ready f w sound t (nth_line (body_of parts.body.lines) f.line) refl)

  calls_more : (n : ℕ) → BodiesEnd n → CallsEnd (suc n)
  calls_more n bodies q x me locked gs w ready is sound given = by w.left refl
    where
      same_procedure : (parts_of R q ready).head.procedure ≡ x
      same_procedure = some_is (sym (parts_of R q ready).head.is_procedure ∙ is)

      by : (left : ℕ) → w.left ≡ left
          → Ends K (Returned (declarations_of R) x) (RunLeaves R (suc n) (enters q me locked gs) w) w (stepped M left (λ w. then (entered_as R q me locked gs w) (λ f w. go M n (runs q f) w)) w)
      by zero left = keeps_self K w
      by (suc k) left =
          let E : Type 0 = RunLeaves R (suc n) (enters q me locked gs) w in
          let w1 : Memory = stepped_to k w in
          let sound1 : IsSound K w1 = sound_later K w w1 (same_stepped k w) sound in
          ends_from K (Returned (declarations_of R) x) E w w1 (then (entered_as R q me locked gs w1) (λ f w. go M n (runs q f) w)) (same_stepped k w)
          (then_ends K (λ u f. IsTypedFrame F R q u f) (Returned (declarations_of R) x) E w1 (entered_as R q me locked gs w1) (λ f w. go M n (runs q f) w)
          (entered_ends R q me locked gs w1 F E ready x is sound1 (all_given K w w1 x.params gs (same_stepped k w) given)
          (λ v y at own large. at_entry q k v me locked gs y w left at own large))
          (λ o f v one keeps t.
          ends_weaker K (Returned (declarations_of R) x) (RunLeaves R n (runs q f) v) E v (go M n (runs q f) v) (λ h. behind_entry q k me locked gs f w v o left one h)
          (subst (λ (z : Procedure). Ends K (Returned (declarations_of R) z) (RunLeaves R n (runs q f) v) v (go M n (runs q f) v)) same_procedure
          (bodies q ready f v (sound_later K w1 v keeps sound1) t))))

  -- ---- all turns

  abbrev Both : ℕ → Type 0
  Both n = CallsEnd n × BodiesEnd n

  pub both_end : (n : ℕ) → Both n
  both_end zero = (λ q x me locked gs w ready is sound given. keeps_self K w, λ p ready f w sound t. keeps_self K w)
  both_end (suc n) =
      let b : Both n = both_end n in
      (calls_more n b.1, bodies_more n b.0 b.1)

-- what is given at the start stands in the footprint
given_within : (D : Declarations) (w : Memory) (all gs : List SourceGiven) → ((q : Position) → list_any (is_given_at q) gs ≡ true → list_any (is_given_at q) all ≡ true)
    → (vs : List VarId) → AreGiven (ground D anywhere) w vs gs → AreGiven (ground D (footprint_of w all)) w vs gs
given_within D w all [] among [] h = tt
given_within D w all [] among (v ∷ vs) h = h
given_within D w all (g ∷ gs) among [] h = h
given_within D w all (g ∷ gs) among (v ∷ vs) h = (
  by (slice_get D.vars v.0) g (λ q e. among q (ap (λ b. b || list_any (is_given_at q) gs) e)) h.0,
  given_within D w all gs (λ q e. among q (last_or (is_given_at q g) (list_any (is_given_at q) gs) e)) vs h.1,
)
  where
    last_or : (a b : Bool) → b ≡ true → a || b ≡ true
    last_or true b e = refl
    last_or false b e = e

    by : (o : Option Variable) (g : SourceGiven) → ((q : Position) → is_given_at q g ≡ true → list_any (is_given_at q) all ≡ true)
        → IsGiven (ground D anywhere) w o g → IsGiven (ground D (footprint_of w all)) w o g
    by None g m h = h
    by (Some y) (by_value x) m h = h
    by (Some y) (by_address (root d q)) m h = (
      h.0,
      h.1,
      fills_in (ground D anywhere) (ground D (footprint_of w all)) w d q y.ty
          (λ r e. last_or (is_open w.next r.root) (list_any (is_given_at r) all) (m r e)) h.2,
    )
    by (Some y) (by_address (item e q j path)) m h = (
      h.0,
      (
        h.1.0,
        h.1.1,
        record {
          holds = h.1.2.holds;
          made = h.1.2.made;
          allowed = last_or (is_open w.next q.root) (list_any (is_given_at q) all) (m q (self_same q));
        },
      ),
    )
    by (Some y) (by_address (constant x)) m h = h

-- so does what is shared, and what isn't made yet
pub sound_within : (D : Declarations) (w : Memory) (gs : List SourceGiven) → IsSound (ground D anywhere) w → IsSound (ground D (footprint_of w gs)) w
sound_within D w gs s = record {
  modules = λ v x is m c. within v x.ty (s.modules v x is m c);
  statics = λ v x is st c. may v x (s.statics v x is st c);
  shares = λ v. refl;
  fresh = λ n l. ap (λ b. b || list_any (is_given_at (whole (made n))) gs) (le-leb w.next n l);
  shared_parts = λ v x is user path. refl;
  fresh_parts = λ v x is user n path l. ap (λ b. b || list_any (is_given_at (at (made n) path)) gs) (le-leb w.next n l);
}
  where
    within : (v : ℕ) (ty : Ty) → Fills (ground D anywhere) w (shared_place v) ty (variable_shape D v)
        → Fills (ground D (footprint_of w gs)) w (shared_place v) ty (variable_shape D v)
    within v ty f =
        fills_by (ground D anywhere) (ground D (footprint_of w gs)) w w (shared_place v)
        (λ path t z. record { holds = z.holds; made = z.made; allowed = refl }) ty (variable_shape D v) f

    may : (v : ℕ) (x : Variable) → MayStand (ground D anywhere) w v x → MayStand (ground D (footprint_of w gs)) w v x
    may v x (inl n) = inl n
    may v x (inr f) = inr (within v x.ty f)

pub run_result : (R : Runnable) (p n : ℕ) (x : Procedure) (me : Option ℕ) (gs : List SourceGiven) (inputs : List (List ℕ)) (w : Memory) → IsReady R p
    → slice_get (declarations_of R).procs p ≡ Some x → IsSound (ground (declarations_of R) anywhere) w
    → AreGiven (ground (declarations_of R) anywhere) w x.params gs
    → IsRunResult R (suc n) x gs (enters p me [] gs) (started inputs n w) (run6 R p me gs inputs n w)
run_result R p n x me gs inputs w ready is sound given =
    let D : Declarations = declarations_of R in
    let u : Memory = started inputs n w in
    let F : Footprint = footprint_of u gs in
    let k : Keeps (ground D anywhere) w u = keeps_same (ground D anywhere) w u refl refl refl refl in
    as_call (ground D F) (RunLeaves R (suc n)) x (enters p me [] gs) u (run6 R p me gs inputs n w)
    ((both_end F R (suc n)).0 p x me [] gs u ready is (sound_within D u gs (sound_later (ground D anywhere) w u k sound))
    (given_within D u gs gs (λ q e. e) x.params (all_given (ground D anywhere) w u x.params gs k given)))
