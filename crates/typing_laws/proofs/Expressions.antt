-- A covered expression that is well typed gives a value of its type where the variables stand, or raises an error, or leaves.
use Rattle.std.proofs.Common.{false, ◌≡◌, refl, sym, ap, ◌∙◌, subst, ℕ, pos, ◌<◌, arith, ltb-true, le-leb, Bool, true, cond, ◌&&◌, ◌||◌, true≢false, List, [], ◌∷◌, Option, Some, None, ◌⊎◌, inl, inr}
use Rattle.std.specs.Prelude.{slice_get, is_some, nat_lt}
use Rattle.std.specs.List.{list_all}
use Rattle.up_base.proofs.Tests.{both_true}
use Rattle.vb_tree.specs.BoundTree.{Ty}
use Rattle.vb_tree.specs.BoundTree as types
use Rattle.vb_tree.specs.declared.bound.LibCall.{LibCall}
use Rattle.vb_tree.specs.declared.bound.LibCall.TheVariants as lib
use Rattle.vb_tree.specs.declared.bound.Op6.TheVariants as op6
use Rattle.vb_tree.specs.declared.declared.VarId.{VarId}
use Rattle.vb_tree.specs.declared.expression.BinOp.{BinOp}
use Rattle.vb_tree.specs.declared.expression.UnOp.{UnOp}
use Rattle.vb_tree.specs.declared.value.Value6.{Value6}
use Rattle.vb_tree.specs.declared.value.Value6.TheVariants as v
use Rattle.vb6_meaning.specs.Answers.{Answer}
use Rattle.vb6_meaning.specs.Answers as answer
use Rattle.vb6_meaning.specs.declared.number.NumberKind.TheVariants as kinds
use Rattle.vb6_meaning.specs.Kinds.{fits}
use Rattle.vb6_meaning.specs.Library as values
use Rattle.vb6_meaning.specs.Values.{coerce, operate}
use Rattle.bound_tree.specs.declared.body.Mention.{Mention}
use Rattle.bound_tree.specs.Tree.{Declarations, Expr, typed, Term, variable, library, unary, binary, constant, convert, err_number, is_same, Exprs, no_exprs, next_expr}
use Rattle.bound_facts.specs.Locks.{is_same_type}
use Rattle.bound_facts.specs.Node.{type_at, auto_class, declared_in, variable_number, is_array_type}
use Rattle.net_meaning.specs.WrittenRows.{write_operator, write_unary, write_conversion}
use Rattle.row_laws.proofs.Composing.{then_assoc}
use Rattle.run_base.specs.Outcomes.{Output, Outcome, gives, outside, after, then, answered, asked, some_of, first_input, rest_inputs}
use Rattle.vb6_run.specs.Expressions.{Context, Parts, at_address, declared, value_in, scalar_in, scalar_of, answer_as, left_operand, then_row, made_for, as_new, parts_of, term_parts, value_of, scalar_value, type_shape, library_call, library_parts, library_value, values_of, value_parts, has_byte}
use Rattle.vb6_run.specs.Runnables.{variable_address}
use Rattle.vb6_run.specs.Store as store
use Rattle.vb6_run.specs.Store.{Address, Memory, SourceGiven, Does, provided, read}
use Rattle.vb6_run.specs.Values.{Value, scalar, is_of_shape}
use Rattle.run_matches.specs.CoveredVariables.{covers_type}
use Rattle.run_matches.specs.CoveredExprs.{Uses, covers_operator, is_nothing}
use Rattle.run_matches.specs.Formed.{is_call, is_row_of_call, is_row_of_one, is_row_of_two, types_of}
use Rattle.typing_laws.specs.Flat.{flat_uses}
use Rattle.typing_laws.specs.Calls.{CallsKeep, SourceJob}
use Rattle.typing_laws.specs.Edges.{IsEdge, IsLibraryEdge}
use Rattle.typing_laws.specs.Frames.{HasOwn, IsSound, Keeps}
use Rattle.typing_laws.specs.Leaving.{Leaves, ExprsLeave, at_operator, in_left, in_right, in_operand, in_converted, in_library, at_library, at_input, at_gone, at_err_number, in_first, in_later}
use Rattle.typing_laws.specs.Plain.{IsValue}
use Rattle.typing_laws.specs.Typed.{fits_type, has_type, is_unknown}
use Rattle.typing_laws.proofs.Addresses.{IsRead, IsSeat, IsUnread, place_later, read_seat, seat_of}
use Rattle.typing_laws.proofs.Ends.{Ends, ends_after, ends_weaker, keeps_self, sound_later, then_ends}
use Rattle.typing_laws.proofs.Library.{ArePlain, gives_itself, library_answer}
use Rattle.typing_laws.proofs.Places.{keeps_same}
use Rattle.typing_laws.proofs.Plain.{Plain, a_text, a_boolean, a_byte, an_integer, a_long, a_currency, is_of_type, same_as}
use Rattle.typing_laws.proofs.Rows.{IsAnswer, binary_answer, unary_answer, conversion_answer, typed_binary, typed_unary}
use Rattle.typing_laws.proofs.Uses.{PlaceOf, Used, place_of, use_is}
use Rattle.typing_laws.specs.Frames.{Footprint, Ground, ground}

-- ---- values of expressions

abbrev pub IsTyped : Ty → Memory → Value → Type 0
IsTyped ty w x = IsValue ty x

abbrev pub IsScalarOf : Ty → Memory → Value6 → Type 0
IsScalarOf ty w x = Plain ty x

-- parts that are a value
abbrev pub IsTerm : Ty → Memory → Parts → Type 0
IsTerm ty w p = (z : Value6) × (p ≡ at_address (store.constant (scalar ty z))) × Plain ty z

-- the check of a value of the type
pub value_here : (C : Context) (ty : Ty) (t : Term) (z : Value6) (w : Memory) → Plain ty z
    → value_in C (typed ty t) (at_address (store.constant (scalar ty z))) w ≡ gives [] (scalar ty z) w
value_here C ty t z w p = ap (λ b. after [] (provided b (λ v. gives [] (scalar ty z) v) w)) (is_of_type (declared C) ty z p)

-- a value that is read
pub value_read : (C : Context) (ty : Ty) (t : Term) (z : Value6) (a : Address) (w : Memory) → read a w ≡ gives [] (scalar ty z) w → Plain ty z
    → value_in C (typed ty t) (at_address a) w ≡ gives [] (scalar ty z) w
value_read C ty t z a w reads p =
    ap (λ (r : Outcome Memory Value). then (after [] r) (λ x v. provided (is_of_shape (type_shape (declared C) ty) x) (λ v. gives [] x v) v)) reads
    ∙ value_here C ty t z w p

-- ---- terms

-- the value of a term that is no address
pub term_ends : (C : Context) (F : Footprint) (ty : Ty) (t : Term) (E : Type 0) (w : Memory) → auto_class (variable_number (declared C).vars (declared_in (declared C) t)) ≡ None
    → Ends (ground (declared C) F) (IsTerm ty) E w (term_parts C ty t w) → Ends (ground (declared C) F) (IsTyped ty) E w (value_of C (typed ty t) w)
term_ends C F ty t E w none h =
    subst (λ r. Ends (ground (declared C) F) (IsTyped ty) E w r) (sym (then_assoc (term_parts C ty t w) (as_new C t) (value_in C (typed ty t))))
    (then_ends (ground (declared C) F) (IsTerm ty) (IsTyped ty) E w (term_parts C ty t w) (λ p v. then (as_new C t p v) (value_in C (typed ty t))) h
    (λ o p v same k m. subst (λ r. Ends (ground (declared C) F) (IsTyped ty) E v r) (sym (is p v m)) (keeps_self (ground (declared C) F) v, (m.0, refl, m.2))))
  where
    is : (p : Parts) (v : Memory) (m : IsTerm ty v p) → then (as_new C t p v) (value_in C (typed ty t)) ≡ gives [] (scalar ty m.0) v
    is p v m =
        ap (λ c. then (made_for C c p v) (value_in C (typed ty t))) none
        ∙ ap (λ a. after [] (value_in C (typed ty t) a v)) m.1 ∙ ap (λ r. after [] r) (value_here C ty t m.0 v m.2)

-- a value as a scalar
pub scalar_ends : (C : Context) (F : Footprint) (e : Expr) (ty : Ty) (E : Type 0) (w : Memory) → Ends (ground (declared C) F) (IsTyped ty) E w (value_of C e w)
    → Ends (ground (declared C) F) (IsScalarOf ty) E w (scalar_value C e w)
scalar_ends C F e ty E w h =
    subst (λ r. Ends (ground (declared C) F) (IsScalarOf ty) E w r) (then_assoc (parts_of C e w) (value_in C e) scalar_of)
    (then_ends (ground (declared C) F) (IsTyped ty) (IsScalarOf ty) E w (value_of C e w) scalar_of h
    (λ o x v same k m. subst (λ y. Ends (ground (declared C) F) (IsScalarOf ty) E v (scalar_of y v)) (sym m.1) (keeps_self (ground (declared C) F) v, m.2)))

answer_ends : (K : Ground) (ty : Ty) (E : Type 0) (a : Answer Value6) (w : Memory) → IsAnswer ty E a → Ends K (IsTerm ty) E w (answer_as ty a w)
answer_ends K ty E (answer.gives z) w h = (keeps_self K w, (z, refl, h))
answer_ends K ty E (answer.raises n) w h = keeps_self K w
answer_ends K ty E answer.outside w h = h

answer_weaker : (ty : Ty) (E F : Type 0) (a : Answer Value6) → (E → F) → IsAnswer ty E a → IsAnswer ty F a
answer_weaker ty E F (answer.gives z) leads h = h
answer_weaker ty E F (answer.raises n) leads h = h
answer_weaker ty E F answer.outside leads h = leads h

pub or_true : (b : Bool) → b || true ≡ true
or_true true = refl
or_true false = refl

-- ---- where the variables of a frame stand

pub record Fits (C : Context) (F : Footprint) (w : Memory) : Type 0 where
  pub sound : IsSound (ground (declared C) F) w
  pub own : HasOwn C.runnable.program F C.procedure w C.frame

pub fits_later : (C : Context) (F : Footprint) (w v : Memory) → Keeps (ground (declared C) F) w v → Fits C F w → Fits C F v
fits_later C F w v k f = record {
  sound = sound_later (ground (declared C) F) w v k f.sound;
  own = λ n x is b c. let h = f.own n x is b c in (h.0, h.1, place_later C.runnable.program F w v n x h.0 k h.2);
}

pub variable_place : (C : Context) (F : Footprint) (w : Memory) → Fits C F w → (x : VarId) (u : Used (declared C) C.procedure x)
    → PlaceOf C.runnable.program F C.frame w x.0 u.variable
variable_place C F w f x u = place_of C.runnable.program F C.procedure C.frame w f.sound f.own x u

-- the parts of a variable that is used
pub variable_is : (C : Context) (ty : Ty) (x : VarId) (qualified : Bool) (w : Memory) (a : Address) → variable_address (declared C) C.frame x.0 ≡ Some a
    → auto_class (slice_get (declared C).vars x.0) ≡ None → parts_of C (typed ty (variable x qualified)) w ≡ gives [] (at_address a) w
variable_is C ty x qualified w a is plain =
    ap (λ (o : Option Address). then (some_of o (λ a w. gives [] (at_address a) w) w) (λ p w. made_for C (auto_class (slice_get (declared C).vars x.0)) p w)) is
    ∙ ap (λ (m : Option ℕ). after [] (made_for C m (at_address a) w)) plain

-- the use of a variable has its type
pub same_type : (D : Declarations) (p : ℕ) (ty : Ty) (x : VarId) (u : Used D p x) → has_type ty (slice_get D.vars x.0) ≡ true → ty ≡ u.variable.ty
same_type D p ty x u typing = same_as ty u.variable.ty u.covers (sym (ap (λ o. has_type ty o) u.is_variable) ∙ typing)

pub known_type : (t : Ty) → covers_type t ≡ true → is_unknown t ≡ false
known_type types.unknown c = absurd (true≢false (sym c))
known_type _ c = refl

-- types that fit, and of which neither is unknown
pub fit_same : (s t : Ty) → is_unknown s ≡ false → is_unknown t ≡ false → fits_type s t ≡ true → is_same_type s t ≡ true
fit_same s t a b h =
    by (is_same_type s t) (sym (ap (λ x. is_same_type s t || (x || is_unknown t)) a ∙ ap (λ x. is_same_type s t || (false || x)) b) ∙ h)
  where
    by : (x : Bool) → x || (false || false) ≡ true → x ≡ true
    by true e = refl
    by false e = e

-- types of a parameter and its argument
pub fitting : (s t : Ty) → is_unknown s ≡ false → covers_type t ≡ true → fits_type s t ≡ true → t ≡ s
fitting s t a d h = sym (same_as s t d (fit_same s t a (known_type t d) h))

pub no_array : (ty : Ty) → covers_type ty ≡ true → is_array_type ty ≡ false
no_array (types.array e rank) c = absurd (true≢false (sym c))
no_array _ c = refl

-- ---- Err.Number

small_fits : (m : ℕ) → nat_lt m 65536 ≡ true → fits kinds.Long (pos m) ≡ true
small_fits m small = let below : m < 65536 = ltb-true m 65536 small in le-leb m 2147483647 (omega arith)

number_by : (C : Context) (F : Footprint) (X : SourceJob → Memory → Type 0) (w : Memory) (b : Bool) → nat_lt w.err 65536 ≡ b
    → Ends (ground (declared C) F) (IsTerm types.long) (Leaves C X (typed types.long err_number) w) w
    (store.provided b (λ s. value_parts (scalar types.long (v.Long (pos s.err))) s) w)
number_by C F X w true e = (keeps_self (ground (declared C) F) w, (v.Long (pos w.err), refl, a_long (pos w.err) (small_fits w.err e)))
number_by C F X w false e = at_err_number types.long w e

-- a Long, where it is the number of an error
pub number_ends : (C : Context) (F : Footprint) (X : SourceJob → Memory → Type 0) (w : Memory) (ty : Ty) → types.long ≡ ty
    → Ends (ground (declared C) F) (IsTyped ty) (Leaves C X (typed ty err_number) w) w (value_of C (typed ty err_number) w)
number_ends C F X w ty same =
    subst (λ t. Ends (ground (declared C) F) (IsTyped t) (Leaves C X (typed t err_number) w) w (value_of C (typed t err_number) w)) same
    (term_ends C F types.long err_number (Leaves C X (typed types.long err_number) w) w refl (number_by C F X w (nat_lt w.err 65536) refl))

-- ---- Is

-- Nothing is the same as Nothing
pub same_ends : (C : Context) (F : Footprint) (X : SourceJob → Memory → Type 0) (w : Memory) (ty : Ty) (d e : Expr) → types.boolean ≡ ty → is_nothing d ≡ true
    → is_nothing e ≡ true → Ends (ground (declared C) F) (IsTyped ty) (Leaves C X (typed ty (is_same d e)) w) w (value_of C (typed ty (is_same d e)) w)
same_ends C F X w ty (typed types.nothing (constant v.Nothing o)) (typed types.nothing (constant v.Nothing r)) same h i =
    let d : Expr = typed types.nothing (constant v.Nothing o) in
    let e : Expr = typed types.nothing (constant v.Nothing r) in
    subst (λ t. Ends (ground (declared C) F) (IsTyped t) (Leaves C X (typed t (is_same d e)) w) w (value_of C (typed t (is_same d e)) w)) same
    (term_ends C F types.boolean (is_same d e) (Leaves C X (typed types.boolean (is_same d e)) w) w refl
    (keeps_self (ground (declared C) F) w, (v.Boolean true, refl, a_boolean true)))
same_ends C F X w ty (typed types.nothing (constant v.Nothing o)) (typed types.nothing (constant _ r)) same h i = absurd (true≢false (sym i))
same_ends C F X w ty (typed types.nothing (constant v.Nothing o)) (typed types.nothing _) same h i = absurd (true≢false (sym i))
same_ends C F X w ty (typed types.nothing (constant v.Nothing o)) (typed _ t) same h i = absurd (true≢false (sym i))
same_ends C F X w ty (typed types.nothing (constant _ o)) e same h i = absurd (true≢false (sym h))
same_ends C F X w ty (typed types.nothing _) e same h i = absurd (true≢false (sym h))
same_ends C F X w ty (typed _ t) e same h i = absurd (true≢false (sym h))

module _ (C : Context) (F : Footprint) (X : SourceJob → Memory → Type 0) (calls : CallsKeep C F X) (mentions : List Mention) where
  abbrev D : Declarations
  D = declared C

  abbrev K : Ground
  K = ground (declared C) F

  abbrev uses : Uses
  uses = flat_uses C.runnable.program C.procedure mentions

  pub variable_ends : (w : Memory) → Fits C F w → (ty : Ty) (x : VarId) (qualified : Bool) → uses.scalar x ≡ true → has_type ty (slice_get D.vars x.0) ≡ true
      → Ends K (IsTyped ty) (Leaves C X (typed ty (variable x qualified)) w) w (value_of C (typed ty (variable x qualified)) w)
  variable_ends w fits ty x qualified used typing =
      let u : Used D C.procedure x = use_is C.runnable.program C.procedure mentions x used in
      let p : PlaceOf C.runnable.program F C.frame w x.0 u.variable = variable_place C F w fits x u in
      let e : Expr = typed ty (variable x qualified) in
      let s : ty ≡ u.variable.ty = same_type D C.procedure ty x u typing in
      let seat : IsSeat K w ty p.0 = subst (λ t. IsSeat K w t p.0) (sym s) (seat_of C.runnable.program F w x.0 u.variable p.0 p.2) in
      subst (λ r. Ends K (IsTyped ty) (Leaves C X e w) w r) (sym (ap (λ r. then r (value_in C e)) (variable_is C ty x qualified w p.0 p.1 u.plain)))
      (ends_after K (IsTyped ty) (Leaves C X e w) w [] (value_in C e (at_address p.0) w)
      (by p.0 p.1 (read_seat K w ty p.0 (subst (λ t. covers_type t ≡ true) (sym s) u.covers) seat)))
    where
      by : (a : Address) → variable_address D C.frame x.0 ≡ Some a → IsRead K w ty a ⊎ IsUnread K w ty a
          → Ends K (IsTyped ty) (Leaves C X (typed ty (variable x qualified)) w) w (value_in C (typed ty (variable x qualified)) (at_address a) w)
      by a is (inl r) =
          subst (λ o. Ends K (IsTyped ty) (Leaves C X (typed ty (variable x qualified)) w) w o)
          (sym (value_read C ty (variable x qualified) r.value a w r.reads r.plain)) (keeps_self K w, (r.value, refl, r.plain))
      by a is (inr n) =
          subst (λ o. Ends K (IsTyped ty) (Leaves C X (typed ty (variable x qualified)) w) w
          (then (after [] o) (λ x v. provided (is_of_shape (type_shape (declared C) ty) x) (λ v. gives [] x v) v))) (sym n.1)
          (at_gone ty x qualified w a is n.0)

  -- ---- operators and conversions over operands of covered types

  pub unary_ends : (w : Memory) (ty : Ty) (op : UnOp) (e : Expr) → covers_type ty ≡ true → covers_type (type_at e) ≡ true
      → is_row_of_one ty (write_unary op (type_at e)) ≡ true → Ends K (IsTyped (type_at e)) (Leaves C X e w) w (value_of C e w)
      → Ends K (IsTyped ty) (Leaves C X (typed ty (unary op e)) w) w (value_of C (typed ty (unary op e)) w)
  unary_ends w ty op e c first formed h =
      term_ends C F ty (unary op e) (Leaves C X (typed ty (unary op e)) w) w refl
      (subst (λ q. Ends K (IsTerm ty) (Leaves C X (typed ty (unary op e)) w) w (then (scalar_value C e w) (λ x v. answer_as ty (operate q x x) v)))
      (sym (typed_unary (type_at e) op first))
      (then_ends K (IsScalarOf (type_at e)) (IsTerm ty) (Leaves C X (typed ty (unary op e)) w) w (scalar_value C e w)
      (λ x v. answer_as ty (operate (op6.TypedUn op) x x) v)
      (ends_weaker K (IsScalarOf (type_at e)) (Leaves C X e w) (Leaves C X (typed ty (unary op e)) w) w (scalar_value C e w) (in_operand ty op e w)
      (scalar_ends C F e (type_at e) (Leaves C X e w) w h))
      (λ o x v same k p.
      answer_ends K ty (Leaves C X (typed ty (unary op e)) w) (operate (op6.TypedUn op) x x) v
      (answer_weaker ty ⊥ (Leaves C X (typed ty (unary op e)) w) (operate (op6.TypedUn op) x x) (λ n. absurd n)
      (unary_answer op ty (type_at e) x c first formed p)))))

  pub binary_ends : (w : Memory) → Fits C F w → (ty : Ty) (op : BinOp) (d e : Expr) → covers_type ty ≡ true → covers_type (type_at d) ≡ true
      → covers_type (type_at e) ≡ true → covers_operator op ≡ true → is_row_of_two op ty (write_operator op (type_at d) (type_at e)) ≡ true
      → ((v : Memory) → Fits C F v → Ends K (IsTyped (type_at d)) (Leaves C X d v) v (value_of C d v))
      → ((v : Memory) → Fits C F v → Ends K (IsTyped (type_at e)) (Leaves C X e v) v (value_of C e v))
      → Ends K (IsTyped ty) (Leaves C X (typed ty (binary op d e)) w) w (value_of C (typed ty (binary op d e)) w)
  binary_ends w fits ty op d e c first second covers formed h i =
      term_ends C F ty (binary op d e) (Leaves C X (typed ty (binary op d e)) w) w refl
      (subst (λ q. Ends K (IsTerm ty) (Leaves C X (typed ty (binary op d e)) w) w
      (then (scalar_value C d w) (λ x v. then (answered (left_operand q x) v) (λ x v.
      then (scalar_value C e v) (λ y u. answer_as ty (operate (then_row q) x y) u)))))
      (sym (typed_binary (type_at d) (type_at e) op first second))
      (then_ends K (IsScalarOf (type_at d)) (IsTerm ty) (Leaves C X (typed ty (binary op d e)) w) w (scalar_value C d w)
      (λ x v. after [] (then (scalar_value C e v) (λ y u. answer_as ty (operate (op6.Typed op) x y) u)))
      (ends_weaker K (IsScalarOf (type_at d)) (Leaves C X d w) (Leaves C X (typed ty (binary op d e)) w) w (scalar_value C d w) (in_left ty op d e w)
      (scalar_ends C F d (type_at d) (Leaves C X d w) w (h w fits)))
      (λ o x v left k p.
      ends_after K (IsTerm ty) (Leaves C X (typed ty (binary op d e)) w) v []
      (then (scalar_value C e v) (λ y u. answer_as ty (operate (op6.Typed op) x y) u))
      (then_ends K (IsScalarOf (type_at e)) (IsTerm ty) (Leaves C X (typed ty (binary op d e)) w) v (scalar_value C e v)
      (λ y u. answer_as ty (operate (op6.Typed op) x y) u)
      (ends_weaker K (IsScalarOf (type_at e)) (Leaves C X e v) (Leaves C X (typed ty (binary op d e)) w) v (scalar_value C e v)
      (in_right ty op d e w v o x left) (scalar_ends C F e (type_at e) (Leaves C X e v) v (i v (fits_later C F w v k fits))))
      (λ o2 y u right l q.
      answer_ends K ty (Leaves C X (typed ty (binary op d e)) w) (operate (op6.Typed op) x y) u
      (answer_weaker ty (IsEdge op x y) (Leaves C X (typed ty (binary op d e)) w) (operate (op6.Typed op) x y)
      (λ edge. at_operator ty op d e w v u o o2 x y left right edge)
      (binary_answer op ty (type_at d) (type_at e) x y c first second covers formed p q)))))))

  pub convert_ends : (w : Memory) (ty to : Ty) (e : Expr) → covers_type ty ≡ true → covers_type to ≡ true → covers_type (type_at e) ≡ true
      → is_some (write_conversion (type_at e) to) ≡ true → ty ≡ to → Ends K (IsTyped (type_at e)) (Leaves C X e w) w (value_of C e w)
      → Ends K (IsTyped ty) (Leaves C X (typed ty (convert to e)) w) w (value_of C (typed ty (convert to e)) w)
  convert_ends w ty to e c goes first some same h =
      term_ends C F ty (convert to e) (Leaves C X (typed ty (convert to e)) w) w refl
      (subst (λ t. Ends K (IsTerm t) (Leaves C X (typed ty (convert to e)) w) w (then (scalar_value C e w) (λ x v. answer_as to (coerce x to) v))) (sym same)
      (then_ends K (IsScalarOf (type_at e)) (IsTerm to) (Leaves C X (typed ty (convert to e)) w) w (scalar_value C e w) (λ x v. answer_as to (coerce x to) v)
      (ends_weaker K (IsScalarOf (type_at e)) (Leaves C X e w) (Leaves C X (typed ty (convert to e)) w) w (scalar_value C e w) (in_converted ty to e w)
      (scalar_ends C F e (type_at e) (Leaves C X e w) w h))
      (λ o x v one k p.
      answer_ends K to (Leaves C X (typed ty (convert to e)) w) (coerce x to) v
      (answer_weaker to ⊥ (Leaves C X (typed ty (convert to e)) w) (coerce x to) (λ n. absurd n)
      (conversion_answer (type_at e) to x first goes some p)))))

  -- ---- the library

  abbrev rest_of : Exprs → Memory → Outcome Memory (List Value6)
  rest_of rest w = values_of C rest w

  -- a call of the library that gives a value of itself
  pub value_call_ends : (w : Memory) → Fits C F w → (ty : Ty) (f : LibCall) (e : Expr) (rest : Exprs) → covers_type ty ≡ true → gives_itself f ≡ true
      → ((p : Parts) (v : Memory) → library_parts C ty f e rest (rest_of rest) p v ≡ library_value C ty f e (rest_of rest) p v)
      → is_row_of_call f (types_of (next_expr e rest)) ty ≡ true
      → ((v : Memory) → Fits C F v → Ends K (IsTyped (type_at e)) (Leaves C X e v) v (value_of C e v))
      → ((v : Memory) → Fits C F v → Ends K (λ u xs. ArePlain (types_of rest) xs) (ExprsLeave C X rest v) v (values_of C rest v))
      → Ends K (IsTerm ty) (Leaves C X (typed ty (library f (next_expr e rest))) w) w (library_call C ty f (next_expr e rest) w)
  value_call_ends w fits ty f e rest c itself is row h i =
      let L : Type 0 = Leaves C X (typed ty (library f (next_expr e rest))) w in
      let J = λ (x : Value6) (v : Memory). then (values_of C rest v) (λ xs u. answer_as ty (values.call f (x ∷ xs)) u) in
      let same : library_call C ty f (next_expr e rest) w ≡ then (scalar_value C e w) J =
      ap (λ (k : Parts → Memory → Outcome Memory Parts). then (parts_of C e w) k) (λ j p v. is p v j)
      ∙ sym (then_assoc (parts_of C e w) (scalar_in C e) J) in
      subst (λ r. Ends K (IsTerm ty) L w r) (sym same)
      (then_ends K (IsScalarOf (type_at e)) (IsTerm ty) L w (scalar_value C e w) J
      (ends_weaker K (IsScalarOf (type_at e)) (Leaves C X e w) L w (scalar_value C e w) (λ l. in_library ty f (next_expr e rest) w (in_first e rest w l))
      (scalar_ends C F e (type_at e) (Leaves C X e w) w (h w fits)))
      (λ o x v one k p.
      then_ends K (λ u xs. ArePlain (types_of rest) xs) (IsTerm ty) L v (values_of C rest v) (λ xs u. answer_as ty (values.call f (x ∷ xs)) u)
      (ends_weaker K (λ u xs. ArePlain (types_of rest) xs) (ExprsLeave C X rest v) L v (values_of C rest v)
      (λ l. in_library ty f (next_expr e rest) w (in_later e rest w v o x one l)) (i v (fits_later C F w v k fits)))
      (λ o2 xs u two k2 q.
      answer_ends K ty L (values.call f (x ∷ xs)) u
      (answer_weaker ty (IsLibraryEdge f (x ∷ xs)) L (values.call f (x ∷ xs)) (λ edge. at_library ty f e rest w v u o o2 x xs one two edge)
      (library_answer f ty c (types_of (next_expr e rest)) (x ∷ xs) (p, q) itself row)))))

  no : false ≡ true → ⊥
  no h = true≢false (sym h)

  and_no : (b : Bool) → b && false ≡ true → ⊥
  and_no true h = no h
  and_no false h = no h

  -- a text, of what has the type String
  pub text_of : (t : Ty) (x : Value6) → Plain t x → is_same_type t types.str ≡ true → (s : List ℕ) × (x ≡ v.Str s)
  text_of _ _ (a_text s) h = (s, refl)
  text_of _ _ (a_boolean b) h = absurd (no h)
  text_of _ _ (a_byte m i) h = absurd (no h)
  text_of _ _ (an_integer z i) h = absurd (no h)
  text_of _ _ (a_long z i) h = absurd (no h)
  text_of _ _ (a_currency z i) h = absurd (no h)

  -- of the arguments of MsgBox and InputBox the first is a text
  pub first_text : (e : Expr) (rest : Exprs) (u ty : Ty) → is_call (types.str ∷ []) u (types_of (next_expr e rest)) ty ≡ true
      → is_same_type (type_at e) types.str ≡ true
  first_text e no_exprs u ty h =
      (both_true (is_same_type (type_at e) types.str) true (both_true (is_same_type u ty) (is_same_type (type_at e) types.str && true) h).1).0
  first_text e (next_expr d rest) u ty h = absurd (and_no (is_same_type (type_at e) types.str) (both_true (is_same_type u ty) _ h).1)

  pub asked_ends : (w u : Memory) (e : Expr) (rest : Exprs) (o : List Output) (s : List ℕ) (t : Bool) → list_all has_byte (first_input u.inputs) ≡ t
      → scalar_value C e w ≡ gives o (v.Str s) u
      → Ends K (IsTerm types.str) (Leaves C X (typed types.str (library lib.InputBox (next_expr e rest))) w) u
      (cond t (gives (asked s ∷ []) (at_address (store.constant (scalar types.str (v.Str (first_input u.inputs))))) (record u { inputs = rest_inputs u.inputs }))
      (outside (asked s ∷ [])))
  asked_ends w u e rest o s true h one =
      (keeps_same K u (record u { inputs = rest_inputs u.inputs }) refl refl refl refl, (v.Str (first_input u.inputs), refl, a_text (first_input u.inputs)))
  asked_ends w u e rest o s false h one = at_input types.str e rest w u o s one h
