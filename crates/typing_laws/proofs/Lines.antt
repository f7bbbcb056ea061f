-- Prints, calls and conditions keep a well-typed frame well typed, or leave.
use Rattle.std.proofs.Common.{◌≡◌, refl, sym, ap, ◌∙◌, subst, ℕ, ◌^◌, ℤ, pos, negsuc, Bool, true, false, cond, ◌&&◌, true≢false, List, [], ◌∷◌, ◌++◌, Option, Some, None, ◌⊎◌, inl, inr}
use Rattle.std.specs.Prelude.{nat_lt, length, slice_get, ◌||◌, is_some, option_map, suc}
use Rattle.up_base.proofs.Tests.{both_true, either}
use Rattle.vb_tree.specs.BoundTree.{Ty, fixed, unknown}
use Rattle.vb_tree.specs.BoundTree as types
use Rattle.vb_tree.specs.declared.bound.LibCall.{LibCall}
use Rattle.vb_tree.specs.declared.bound.LibCall.TheVariants as lib
use Rattle.vb_tree.specs.declared.token.Suffix.{Suffix}
use Rattle.vb_tree.specs.declared.value.Value6.{Value6}
use Rattle.vb_tree.specs.Tree.{Exp, Form}
use Rattle.vb_tree.specs.Tree as source
use Rattle.vb6_meaning.specs.NumberTexts.{print_text}
use Rattle.bound_tree.specs.declared.body.Mention.{Mention}
use Rattle.bound_tree.specs.Targets.{Aims, Step, heads_round, innermost, onward, otherwise_of, step_of}
use Rattle.bound_tree.specs.Tree.{Declarations, Expr, typed, Term, call, library, err_raise, err_clear, no_object, of_object, Exprs, no_exprs, next_expr}
use Rattle.bound_facts.specs.Locks.{is_same_type}
use Rattle.bound_facts.specs.Node.{type_at}
use Rattle.bound_facts.specs.Nodes.{nodes, nodes_of_all}
use Rattle.row_laws.proofs.Composing.{then_assoc}
use Rattle.run_base.specs.Frames.{Kept, keeping, to_line}
use Rattle.run_base.specs.Outcomes.{Output, Outcome, gives, raises, outside, then, answered, printed}
use Rattle.vb6_run.specs.Expressions.{Context, Parts, no_value, declared, scalar_in, whole_number, raise_of, as_new, parts_of, term_parts, value_of, scalar_value, library_call}
use Rattle.vb6_run.specs.Lines.{behind_print, branch, condition, goes_if, goes_on, item_text, items_text, print}
use Rattle.vb6_run.specs.Store.{Address, Memory, SourceFrame, set_err}
use Rattle.vb6_run.specs.Values.{Value}
use Rattle.run_matches.specs.CoveredVariables.{covers_type}
use Rattle.run_matches.specs.CoveredExprs.{Uses, covers_expr, covers_exprs, covers_object, covers_passed, covers_term}
use Rattle.run_matches.specs.CoveredLines.{covers_called, is_box}
use Rattle.run_matches.specs.Formed.{are_formed, is_formed, is_row_of_call, types_of}
use Rattle.typing_laws.specs.Flat.{flat_uses, outer_uses}
use Rattle.typing_laws.specs.Calls.{CallsAreSuited, CallsKeep, Each, IsAimed, IsSuited, SourceJob}
use Rattle.typing_laws.specs.Frames.{IsKeptBy, IsSound, IsTypedFrame, Keeps}
use Rattle.typing_laws.specs.Leaving.{Leaves, ItemsLeave, in_item, behind_item, in_raised, at_raised, is_error_number}
use Rattle.typing_laws.specs.Typed.{are_typed, are_typed_passed, fits_call, fits_type, is_typed, takes, taken, is_unknown}
use Rattle.typing_laws.proofs.Callees.{both_each}
use Rattle.typing_laws.proofs.Ends.{Ends, ends_after, ends_as, ends_weaker, keeps_self, sound_later, then_ends}
use Rattle.typing_laws.proofs.Expressions.{Fits, IsScalarOf, IsTyped, fitting, scalar_ends}
use Rattle.typing_laws.proofs.Flat.{no_object_covered}
use Rattle.typing_laws.proofs.Frames.{frame_at, frame_later}
use Rattle.typing_laws.proofs.Places.{keeps_same, not_none}
use Rattle.typing_laws.proofs.Plain.{Plain, IsPrinted, a_boolean, is_printed, long_value, same_as}
use Rattle.typing_laws.proofs.Found.{HasAddress}
use Rattle.typing_laws.proofs.Trees.{address_ends, call_args_end, value_ends}
use Rattle.typing_laws.proofs.Values.{Callee, IsCalled, box_ends, call_ends, callee_of, covered_type, no_arguments}
use Rattle.typing_laws.specs.Frames.{Footprint, Ground, ground}

-- ---- where the frame of a line stands

pub record IsIn (C : Context) (F : Footprint) (w : Memory) : Type 0 where
  pub sound : IsSound (ground (declared C) F) w
  pub frame : IsTypedFrame F C.runnable C.procedure w C.frame

pub in_later : (C : Context) (F : Footprint) (w v : Memory) → Keeps (ground (declared C) F) w v → IsIn C F w → IsIn C F v
in_later C F w v k h = record { sound = sound_later (ground (declared C) F) w v k h.sound; frame = frame_later F C.runnable C.procedure w v C.frame k h.frame }

pub fits_in : (C : Context) (F : Footprint) (w : Memory) → IsIn C F w → Fits C F w
fits_in C F w h = record { sound = h.sound; own = h.frame.own }

-- a frame that goes on
abbrev pub Good : Context → Footprint → Memory → SourceFrame → Type 0
Good C F v g = IsTypedFrame F C.runnable C.procedure v g

-- a head keeps something at its line
abbrev pub KeepsAt : Context → Footprint → Form → List Expr → Type 0
KeepsAt C F f es =
    (w : Memory) (k : Kept Value Address) (n : ℕ) → IsTypedFrame F C.runnable C.procedure w C.frame → IsKeptBy (ground (declared C) F) w f es k
    → IsTypedFrame F C.runnable C.procedure w (keeping k n C.frame)

pub leads : (C : Context) (F : Footprint) (E : Type 0) (w : Memory) (n : ℕ) → IsIn C F w → Ends (ground (declared C) F) (Good C F) E w (gives [] (to_line n C.frame) w)
leads C F E w n h = (keeps_self (ground (declared C) F) w, frame_at F C.runnable C.procedure w C.frame h.frame n)

-- a line that leads to one of two others
pub goes_by : (C : Context) (F : Footprint) (E : Type 0) (w : Memory) → IsIn C F w → (o : Option ℕ) → (o ≡ None → E) → Ends (ground (declared C) F) (Good C F) E w (goes_if C o w)
goes_by C F E w h None out = out refl
goes_by C F E w h (Some n) out = leads C F E w n h

pub branches : (C : Context) (F : Footprint) (E : Type 0) (m n : Option ℕ) (x : Value6) (w : Memory) → IsIn C F w → Plain types.boolean x → (m ≡ None → E) → (n ≡ None → E)
    → Ends (ground (declared C) F) (Good C F) E w (branch C m n x w)
branches C F E m n _ w h (a_boolean true) first second = goes_by C F E w h m first
branches C F E m n _ w h (a_boolean false) first second = goes_by C F E w h n second

-- ---- where heads and ends of blocks lead

-- a head or a part of a block, that may pass the lines behind it by
abbrev pub passes_by : Form → Bool
passes_by (source.if_head e) = true
passes_by (source.line_if e) = true
passes_by (source.else_if e) = true
passes_by (source.case_line items) = true
passes_by (source.for_head counter start limit step) = true
passes_by (source.do_while e) = true
passes_by (source.do_until e) = true
passes_by (source.while_head e) = true
passes_by _ = false

passes_somewhere : (all : List Step) (n : ℕ) (f : Form) → passes_by f ≡ true → is_some (otherwise_of all n (step_of f)) ≡ true
passes_somewhere all n (source.if_head e) h = refl
passes_somewhere all n (source.line_if e) h = refl
passes_somewhere all n (source.else_if e) h = refl
passes_somewhere all n (source.case_line items) h = refl
passes_somewhere all n (source.for_head counter start limit step) h = refl
passes_somewhere all n (source.do_while e) h = refl
passes_somewhere all n (source.do_until e) h = refl
passes_somewhere all n (source.while_head e) h = refl
passes_somewhere all n _ h = absurd (true≢false (sym h))

pub never_nowhere : (C : Context) (f : Form) (E : Type 0) → IsAimed C f → passes_by f ≡ true → C.aims.otherwise ≡ None → E
never_nowhere C f E a h none =
    absurd (true≢false (sym (ap is_some (ap (λ (x : Aims). x.otherwise) a.aims) ∙ passes_somewhere a.all a.number f h) ∙ ap is_some none))

-- a Next that closes a block goes back to it
pub never_unopened : (C : Context) (name : Option (List ℕ × Suffix)) (n : ℕ) (E : Type 0) → IsAimed C (source.next name) → C.aims.own ≡ Some n → C.aims.back ≡ None → E
never_unopened C name n E a own none =
    by (innermost (heads_round a.all a.number)) (sym (ap (λ (x : Aims). x.own) a.aims) ∙ own) (sym (ap (λ (x : Aims). x.back) a.aims) ∙ none)
  where
    by : (o : Option ℕ) → o ≡ Some n → option_map (λ head. onward a.all (suc head)) o ≡ None → E
    by None e h = absurd (not_none e)
    by (Some m) e h = absurd (not_none (sym h))

-- ---- what a variable takes

known : (s : Ty) → covers_type s ≡ true → is_unknown s ≡ false
known unknown c = absurd (true≢false (sym c))
known _ c = refl

taken_itself : (t : Ty) → covers_type t ≡ true → taken t ≡ t
taken_itself (fixed units) c = absurd (true≢false (sym c))
taken_itself _ c = refl

-- a target of a covered type takes values of its type alone
pub taken_same : (t s : Ty) → covers_type t ≡ true → covers_type s ≡ true → takes t s ≡ true → s ≡ t
taken_same t s c d h =
    sym (same_as t s d (by (is_same_type t s)
    (sym (ap (λ u. is_same_type u s || (is_unknown t || is_unknown s)) (taken_itself t c)
    ∙ ap (λ b. is_same_type t s || (b || is_unknown s)) (known t c) ∙ ap (λ b. is_same_type t s || (false || b)) (known s d))
    ∙ h)))
  where
    by : (b : Bool) → b || (false || false) ≡ true → b ≡ true
    by true e = refl
    by false e = e

error_by : (n : ℕ) (K : Ground) (E : Type 0) (w : Memory) (b : Bool) → (b ≡ false → E)
    → Ends K (λ v (p : Parts). Unit {0}) E w (cond b (raises [] n w) (outside []))
error_by n K E w true out = keeps_self K w
error_by n K E w false out = out refl

module _ (C : Context) (F : Footprint) (X : SourceJob → Memory → Type 0) (calls : CallsKeep C F X) (mentions : List Mention) where
  abbrev D : Declarations
  D = declared C

  abbrev K : Ground
  K = ground (declared C) F

  abbrev uses : Uses
  uses = flat_uses C.runnable.program C.procedure mentions

  -- what is known of an expression of a line
  pub record IsFine (e : Expr) : Type 0 where
    pub covers : covers_expr uses e ≡ true
    pub formed : is_formed e ≡ true
    pub typed : is_typed D e ≡ true
    pub suited : CallsAreSuited C.runnable e

  pub fine_type : (e : Expr) → IsFine e → covers_type (type_at e) ≡ true
  fine_type e f = covered_type C F X calls mentions e f.covers

  pub fine_ends : (e : Expr) → IsFine e → (w : Memory) → IsIn C F w → Ends K (IsTyped (type_at e)) (Leaves C X e w) w (value_of C e w)
  fine_ends e f w h = value_ends C F X calls mentions e f.covers f.formed f.typed f.suited w (fits_in C F w h)

  -- where an element is
  pub fine_address : (e : Expr) → IsFine e → (w : Memory) → IsIn C F w → HasAddress C F X e w
  fine_address e f w h = address_ends C F X calls mentions e f.covers f.formed f.typed f.suited w (fits_in C F w h)

  pub fine_scalar : (e : Expr) → IsFine e → (w : Memory) → IsIn C F w → Ends K (IsScalarOf (type_at e)) (Leaves C X e w) w (scalar_value C e w)
  fine_scalar e f w h = scalar_ends C F e (type_at e) (Leaves C X e w) w (fine_ends e f w h)

  -- ---- Debug.Print

  abbrev IsText : Memory → List ℕ → Type 0
  IsText v s = Unit {0}

  item_ends : (w : Memory) → IsIn C F w → (e : Expr) → IsFine e → Ends K IsText (Leaves C X e w) w (item_text C e w)
  item_ends w h e f =
      then_ends K (IsScalarOf (type_at e)) IsText (Leaves C X e w) w (scalar_value C e w) (λ x v. answered (print_text x) v) (fine_scalar e f w h)
      (λ o x v one k p.
      let t : IsPrinted x = is_printed (type_at e) x p in
      subst (λ a. Ends K IsText (Leaves C X e w) v (answered a v)) (sym t.1) (keeps_self K v, tt))

  pub items_end : (es : List Expr) → Each IsFine es → (w : Memory) → IsIn C F w → Ends K IsText (ItemsLeave C X es w) w (items_text C es w)
  items_end [] f w h = (keeps_self K w, tt)
  items_end (e ∷ es) f w h =
      then_ends K IsText IsText (ItemsLeave C X (e ∷ es) w) w (item_text C e w) (λ s v. then (items_text C es v) (λ rest u. gives [] (s ++ rest) u))
      (ends_weaker K IsText (Leaves C X e w) (ItemsLeave C X (e ∷ es) w) w (item_text C e w) (in_item e es w) (item_ends w h e f.0))
      (λ o s v one k t.
      then_ends K IsText IsText (ItemsLeave C X (e ∷ es) w) v (items_text C es v) (λ rest u. gives [] (s ++ rest) u)
      (ends_weaker K IsText (ItemsLeave C X es v) (ItemsLeave C X (e ∷ es) w) v (items_text C es v) (behind_item e es w v o s one)
      (items_end es f.1 v (in_later C F w v k h)))
      (λ o2 rest u two l t. (keeps_self K u, tt)))

  abbrev print_by : (test ended : Bool) → List ℕ → Memory → Outcome Memory Unit
  print_by test ended s w = cond test (gives (printed (s ++ behind_print ended) ∷ []) tt w) (outside [])

  printed_by : (test ended : Bool) (s : List ℕ) (E : Type 0) (w : Memory) → IsIn C F w → (test ≡ false → E)
      → Ends K (Good C F) E w (then (print_by test ended s w) (λ x t. goes_on C t))
  printed_by true ended s E w h out = leads C F E w C.aims.after h
  printed_by false ended s E w h out = out refl

  pub print_ends : (w : Memory) → IsIn C F w → (L : Type 0) (ended : Bool) (es : List Expr) → Each IsFine es → (ItemsLeave C X es w → L)
      → ((o : List Output) (s : List ℕ) (v : Memory) → items_text C es w ≡ gives o s v → nat_lt (length s) (2 ^ 31) ≡ false → L)
      → Ends K (Good C F) L w (then (then (items_text C es w) (print ended)) (λ x s. goes_on C s))
  print_ends w h L ended es f items long =
      subst (λ r. Ends K (Good C F) L w r) (sym (then_assoc (items_text C es w) (print ended) (λ x s. goes_on C s)))
      (then_ends K IsText (Good C F) L w (items_text C es w) (λ s v. then (print ended s v) (λ x t. goes_on C t))
      (ends_weaker K IsText (ItemsLeave C X es w) L w (items_text C es w) items (items_end es f w h))
      (λ o s v one k t. printed_by (nat_lt (length s) (2 ^ 31)) ended s L v (in_later C F w v k h) (long o s v one)))

  -- ---- conditions

  pub condition_ends : (w : Memory) → IsIn C F w → (L : Type 0) (m n : Option ℕ) (e : Expr) → IsFine e → fits_type types.boolean (type_at e) ≡ true
      → (Leaves C X e w → L) → (m ≡ None → L) → (n ≡ None → L) → Ends K (Good C F) L w (condition C m n (e ∷ []) w)
  condition_ends w h L m n e f is leads_ first second =
      then_ends K (IsScalarOf (type_at e)) (Good C F) L w (scalar_value C e w) (branch C m n)
      (ends_weaker K (IsScalarOf (type_at e)) (Leaves C X e w) L w (scalar_value C e w) leads_ (fine_scalar e f w h))
      (λ o x v one k p.
      branches C F L m n x v (in_later C F w v k h)
      (subst (λ t. Plain t x) (fitting types.boolean (type_at e) refl (fine_type e f) is) p) first second)

  -- ---- calls as statements

  abbrev Any : Memory → Parts → Type 0
  Any v p = Unit {0}

  -- Err.Raise raises the number
  raised : (L : Type 0) (w : Memory) (z : ℤ) → (is_error_number z ≡ false → L) → Ends K Any L w (raise_of z w)
  raised L w (pos n) out = error_by n K L w (nat_lt 0 n && nat_lt n 65536) out
  raised L w (negsuc n) out = out refl

  raise_ends : (w : Memory) → IsIn C F w → (ty : Ty) (e : Expr) → IsFine e → is_same_type (type_at e) types.long ≡ true
      → Ends K Any (Leaves C X (typed ty (err_raise e)) w) w (term_parts C ty (err_raise e) w)
  raise_ends w h ty e f long =
      let L : Type 0 = Leaves C X (typed ty (err_raise e)) w in
      subst (λ r. Ends K Any L w r)
      (sym (ap (λ r. then r raise_of) (sym (then_assoc (parts_of C e w) (scalar_in C e) whole_number)) ∙ then_assoc (scalar_value C e w) whole_number raise_of))
      (then_ends K (IsScalarOf (type_at e)) Any L w (scalar_value C e w) (λ x v. then (whole_number x v) raise_of)
      (ends_weaker K (IsScalarOf (type_at e)) (Leaves C X e w) L w (scalar_value C e w) (in_raised ty e w) (fine_scalar e f w h))
      (λ o x v one k p.
      let z = long_value (type_at e) x p (same_as (type_at e) types.long refl long) in
      subst (λ y. Ends K Any L v (then (whole_number y v) raise_of)) (sym z.1)
      (ends_after K Any L v [] (raise_of z.0 v) (raised L v z.0 (λ out. at_raised ty e w v o z.0 (one ∙ ap (λ y. gives o y v) z.1) out)))))

  box_is : (f : LibCall) → is_box f ≡ true → f ≡ lib.MsgBox
  box_is lib.MsgBox h = refl
  box_is _ h = absurd (true≢false (sym h))

  box_args : (f : LibCall) (args : Exprs) → is_box f ≡ true → covers_term uses (library f args) ≡ true → covers_exprs uses args ≡ true
  box_args lib.MsgBox args h c = by (either (covers_exprs uses args) false c)
    where
      by : (covers_exprs uses args ≡ true) ⊎ (false ≡ true) → covers_exprs uses args ≡ true
      by (inl e) = e
      by (inr e) = absurd (true≢false (sym e))
  box_args _ args h c = absurd (true≢false (sym h))

  box_statement : (w : Memory) → IsIn C F w → (ty : Ty) (args : Exprs) → covers_exprs uses args ≡ true → is_row_of_call lib.MsgBox (types_of args) ty ≡ true
      → are_formed args ≡ true → are_typed D args ≡ true → Each (IsSuited C.runnable) (nodes_of_all args)
      → Ends K Any (Leaves C X (typed ty (library lib.MsgBox args)) w) w (library_call C ty lib.MsgBox args w)
  box_statement w h ty no_exprs covers row formed typing suited = absurd (no_arguments lib.MsgBox ty refl row)
  box_statement w h ty (next_expr e rest) covers row formed typing suited =
      let f : IsFine e = record {
        covers = (both_true (covers_expr uses e) (covers_exprs uses rest) covers).0;
        formed = (both_true (is_formed e) (are_formed rest) formed).0;
        typed = (both_true (is_typed D e) (are_typed D rest) typing).0;
        suited = (both_each (IsSuited C.runnable) (nodes e) (nodes_of_all rest) suited).0;
      } in
      ends_as K (λ v p. p ≡ no_value) Any (Leaves C X (typed ty (library lib.MsgBox (next_expr e rest))) w) w (library_call C ty lib.MsgBox (next_expr e rest) w)
      (λ v p i. tt) (box_ends C F X calls mentions w ty e rest row (fine_ends e f w h))

  -- what a term does, where no object is made of it
  as_statement : (w : Memory) (ty : Ty) (t : Term) (L : Type 0) → ((p : Parts) (v : Memory) → as_new C t p v ≡ gives [] p v)
      → Ends K Any L w (term_parts C ty t w) → Ends K Any L w (parts_of C (typed ty t) w)
  as_statement w ty t L plain h =
      then_ends K Any Any L w (term_parts C ty t w) (as_new C t) h
      (λ o p v one k i. subst (λ r. Ends K Any L v r) (sym (plain p v)) (keeps_self K v, tt))

  pub call_statement : (w : Memory) → IsIn C F w → (e : Expr) → covers_called uses e ≡ true → is_formed e ≡ true → is_typed D e ≡ true
      → CallsAreSuited C.runnable e → Ends K Any (Leaves C X e w) w (parts_of C e w)
  call_statement w h (typed ty (call q qualified no_object args)) covers formed typing suited =
      let types = both_true (are_typed_passed D args) (fits_call D ty args (slice_get D.procs q.0)) typing in
      let callee : Callee C q.0 ty args = callee_of C q.0 ty args (suited.0.ready q.0 refl) types.1 in
      let given = both_true (uses.gives q.0) (covers_passed uses args) covers in
      let t : Term = call q qualified no_object args in
      as_statement w ty t (Leaves C X (typed ty t) w) (λ p v. refl)
      (ends_as K (IsCalled C F X calls mentions callee.parts.head.procedure) Any (Leaves C X (typed ty t) w) w (term_parts C ty t w) (λ v p i. tt)
      (call_ends C F X calls mentions w (fits_in C F w h) ty q qualified args callee
      (call_args_end C F X calls mentions ty q args callee given.1 formed types.0 suited.0.suits suited.1 w (fits_in C F w h))))
  call_statement w h (typed ty (call q qualified (of_object e) args)) covers formed typing suited =
      let given = both_true (uses.gives q.0) (covers_object uses e && covers_passed uses args) covers in
      absurd (no_object_covered (outer_uses C.runnable.program C.procedure mentions) e (both_true (covers_object uses e) (covers_passed uses args) given.1).0)
  call_statement w h (typed ty (library f args)) covers formed typing suited =
      let a = both_true (is_box f) (covers_term uses (library f args)) covers in
      let b = both_true (is_row_of_call f (types_of args) ty) (are_formed args) formed in
      let is : f ≡ lib.MsgBox = box_is f a.0 in
      as_statement w ty (library f args) (Leaves C X (typed ty (library f args)) w) (λ p v. refl)
      (subst (λ g. Ends K Any (Leaves C X (typed ty (library g args)) w) w (library_call C ty g args w)) (sym is)
      (box_statement w h ty args (box_args f args a.0 a.1) (subst (λ g. is_row_of_call g (types_of args) ty ≡ true) is b.0) b.1 typing suited.1))
  call_statement w h (typed ty (err_raise e)) covers formed typing suited =
      let b = both_true (is_same_type (type_at e) types.long) (is_formed e) formed in
      as_statement w ty (err_raise e) (Leaves C X (typed ty (err_raise e)) w) (λ p v. refl)
      (raise_ends w h ty e (record { covers = covers; formed = b.1; typed = typing; suited = suited.1 }) b.0)
  call_statement w h (typed ty err_clear) covers formed typing suited =
      as_statement w ty err_clear (Leaves C X (typed ty err_clear) w) (λ p v. refl) (keeps_same K w (set_err 0 w) refl refl refl refl, tt)
  call_statement w h (typed ty _) covers formed typing suited = absurd (true≢false (sym covers))
