-- Arguments, calls and elements, in which each use of a variable has its type.
use Rattle.std.proofs.Common.{◌≡◌, ℕ, Bool, true, false, cond, List, [], ◌∷◌, ◌++◌, map, length, Option, Some, None, refl, sym, ap, ◌∙◌, subst, suc, arith, true≢false}
use Rattle.std.specs.Prelude.{◌+◌, ◌&&◌, not, drop, slice_get}
use Rattle.up_base.proofs.Tests.{and_true, both_true}
use Rattle.vb_tree.specs.BoundTree.{Ty, nothing}
use Rattle.vb_tree.specs.declared.bound.LibCall.{LibCall}
use Rattle.vb_tree.specs.declared.declared.VarId.{VarId}
use Rattle.bound_tree.specs.declared.body.Mention.TheVariants as mention
use Rattle.bound_tree.specs.Tree.{Variable, Procedure, Declarations, Expr, typed, Object, call, err_raise, by_value, by_reference}
use Rattle.bound_facts.specs.Locks.{is_same_type}
use Rattle.bound_facts.specs.Node.{type_at, is_array_type}
use Rattle.typing_rows.specs.declared.conversions.Conversion.{Conversion}
use Rattle.typing_rows.specs.declared.conversions.Conversion.TheVariants.{Stands, To, Breaks}
use Rattle.typing_rows.specs.declared.conversions.Conversion.TheVariants as conversions
use Rattle.typing_rows.specs.declared.library.Wanted.{Wanted}
use Rattle.typing_rows.specs.declared.library.Wanted.TheVariants as wants
use Rattle.typing_rows.specs.Conversions.{converts, index, error_number, is_without_type}
use Rattle.typing_rows.specs.Library.{argument, argument_wanted}
use Rattle.typing_rows.specs.Types.{ty_of}
use Rattle.expression_words.specs.declared.lookups.ErrMember.{ErrMember}
use Rattle.expression_words.specs.declared.lookups.ErrMember.TheVariants as err_members
use Rattle.expression_words.specs.Flaws as flaws
use Rattle.expression_words.specs.Flaws.{Typed, known, no_flaw, breaks, lacks, together}
use Rattle.expression_words.specs.Converting.{fails, id, preset_at, preset_of, wanted}
use Rattle.expression_words.specs.Members.{value_part, result_in, params_in}
use Rattle.expression_words.specs.Passing.{Value, left_out, given, Supplied, value_flaw, is_worded, with_slack, Slot, filled, flawed, all_filled, slot_flaws_after, passed_in, slot_by_value, is_place, is_reference, pass_value, place_argument, array_slot, pass_array, place_slot, pass_reference, pass_typed, is_filled, called_as, preset_slot_of, preset_slot, value_slot, slot, param_at, given_slots, slots, call_over, call_with, called_part, called}
use Rattle.expression_words.specs.LibraryCalls.{is_dimension, in_range, by_wanted, library_argument, library_value, library_arguments, call_over_exprs, is_unfit, unfit_call, fit_call, library_call_of, gives_no_value, library_called}
use Rattle.expression_words.specs.Elements.{index_value, index_of, element_at, element_of}
use Rattle.expression_words.specs.ErrStatements.{raised, raised_value, raise_of, clear_of, err_statement}
use Rattle.typing_laws.specs.Typed.{is_typed, are_typed, fits_parameter, fits_parameters, is_typed_argument, are_typed_passed, is_typed_object}
use Rattle.binding_laws.specs.Typing.{HasTypes}
use Rattle.binding_laws.proofs.AssignedTypes.{Fits, Makes, converts_makes}
use Rattle.binding_laws.proofs.FittingTypes.{IsFit, wanted_fit}
use Rattle.binding_laws.proofs.TypedParts.{same_self, either, over_known, over_all, AllHave, IsPreset, Takes, all_of, call_typed, preset_typed, wanted_typed}

-- ---- arguments

module _ (D : Declarations) where
  abbrev pub HasTypedValue : Value → Type 0
  HasTypedValue left_out = Unit {0}
  HasTypedValue (given t) = HasTypes D t

  abbrev pub AreSupplied : List Supplied → Type 0
  AreSupplied [] = Unit {0}
  AreSupplied (a ∷ rest) = HasTypedValue a.value × AreSupplied rest

  -- ---- what parameters are given

  -- what a parameter is given has its type
  abbrev IsSlot : Option Variable → Slot → Type 0
  IsSlot v (filled a) = (is_typed_argument D a ≡ true) × (fits_parameter a v ≡ true)
  IsSlot v (flawed f) = Unit {0}

  -- one for each parameter; those behind the last are flawed
  abbrev AreSlots : List VarId → List Slot → Type 0
  AreSlots [] [] = Unit {0}
  AreSlots (v ∷ vs) (s ∷ ss) = IsSlot (slice_get D.vars v.0) s × AreSlots vs ss
  AreSlots [] (s ∷ ss) = is_filled s ≡ false
  AreSlots (v ∷ vs) [] = ⊥

  either_slot : (v : Option Variable) (test : Bool) (s t : Slot) → IsSlot v s → IsSlot v t → IsSlot v (cond test s t)
  either_slot v true s t h k = h
  either_slot v false s t h k = k

  by_value_slot : (v : Variable) (t : Typed) → HasTypes D t → IsFit v.ty t → IsSlot (Some v) (slot_by_value t)
  by_value_slot v (known e) h k = (h, k)
  by_value_slot v (flaws.unknown f) h k = tt

  value_passed : (v : Variable) (e : Expr) → is_typed D e ≡ true → IsSlot (Some v) (pass_value D v.ty e)
  value_passed v e h =
      by_value_slot v (wanted D (λ s. converts s v.ty) e) (wanted_typed D (λ s. converts s v.ty) e h) (wanted_fit v.ty D e)

  placed_typed : (v : Variable) (e : Expr) → is_typed D e ≡ true → Fits v.ty (type_at e) → IsSlot (Some v) (filled (place_argument e))
  placed_typed v e h k = by (is_place e)
    where
      by : (b : Bool) → IsSlot (Some v) (filled (cond b (by_reference e) (by_value e)))
      by true = (h, k)
      by false = (h, k)

  array_passed : (v : Variable) (e : Expr) (c : Conversion) → is_typed D e ≡ true → Makes v.ty (type_at e) c → IsSlot (Some v) (array_slot e c)
  array_passed v e Stands h k = placed_typed v e h k
  array_passed v e (To t) h k = tt
  array_passed v e conversions.ByDefault h k = tt
  array_passed v e (Breaks rule) h k = tt

  place_passed : (v : Variable) (e : Expr) (c : Conversion) → is_typed D e ≡ true → Makes v.ty (type_at e) c → IsSlot (Some v) (place_slot D v.ty e c)
  place_passed v e Stands h k = (h, k)
  place_passed v e (To t) h k =
      (and_true (is_same_type (ty_of t) (ty_of t)) (is_typed D e) (same_self (ty_of t)) h, k)
  place_passed v e conversions.ByDefault h k = value_passed v e h
  place_passed v e (Breaks rule) h k = tt

  reference_passed : (parenthesised : Bool) (v : Variable) (e : Expr) → is_typed D e ≡ true → IsSlot (Some v) (pass_reference D parenthesised v.ty e)
  reference_passed parenthesised v e h =
      let ty : Ty = v.ty in
      let c = converts (type_at e) ty in
      let k = converts_makes (type_at e) ty in
      either_slot (Some v) (is_array_type ty) (pass_array parenthesised ty e) (cond (not parenthesised && is_place e) (place_slot D ty e c) (pass_value D ty e))
      (either_slot (Some v) parenthesised (flawed (breaks 21)) (array_slot e c) tt (array_passed v e c h k))
      (either_slot (Some v) (not parenthesised && is_place e) (place_slot D ty e c) (pass_value D ty e) (place_passed v e c h k) (value_passed v e h))

  typed_passed : (v : Variable) (parenthesised : Bool) (t : Typed) → HasTypes D t → IsSlot (Some v) (pass_typed D v parenthesised t)
  typed_passed v parenthesised (known e) h =
      either_slot (Some v) (is_reference v.owner) (pass_reference D parenthesised v.ty e) (pass_value D v.ty e) (reference_passed parenthesised v e h)
      (value_passed v e h)
  typed_passed v parenthesised (flaws.unknown f) h = tt

  preset_passed : (v : Option Variable) (o : Option Expr) → IsPreset D v o → IsSlot v (preset_slot_of o)
  preset_passed v None h = tt
  preset_passed v (Some e) h = h

  supplied_passed : (v : Variable) (parenthesised : Bool) (x : Value) → HasTypedValue x → IsSlot (Some v) (value_slot D v parenthesised x)
  supplied_passed v parenthesised left_out h = preset_passed (Some v) (preset_of (Some v)) (preset_typed D (Some v))
  supplied_passed v parenthesised (given t) h = typed_passed v parenthesised t h

  slot_typed : (o : Option Variable) (a : Supplied) → HasTypedValue a.value → IsSlot o (slot D o a)
  slot_typed None a h = tt
  slot_typed (Some v) a h =
      either_slot (Some v) (is_worded a) (flawed (together (breaks 18) (value_flaw a.value))) (value_slot D v a.parenthesised a.value) tt
      (supplied_passed v a.parenthesised a.value h)

  presets_typed : (params : List VarId) → AreSlots params (map (preset_slot D) params)
  presets_typed [] = tt
  presets_typed (v ∷ params) = (preset_passed (slice_get D.vars v.0) (preset_at D v) (preset_typed D (slice_get D.vars v.0)), presets_typed params)

  first_place : (i : ℕ) → i + 0 ≡ i
  first_place i = omega arith

  next_place : (i j : ℕ) → i + suc j ≡ (i + 1) + j
  next_place i j = omega arith

  -- parameters from a place on, which stand among those of the procedure
  given_typed : (params rest : List VarId) (i : ℕ) (args : List Supplied) → ((j : ℕ) → slice_get rest j ≡ slice_get params (i + j)) → AreSupplied args
      → AreSlots rest (given_slots D params i args ++ map (preset_slot D) (drop (length args) rest))
  given_typed params rest i [] from h = presets_typed rest
  given_typed params [] i (a ∷ args) from h =
      let none : slice_get params i ≡ None = ap (λ n. slice_get params n) (sym (first_place i)) ∙ sym (from 0) in
      ap (λ o. is_filled (slot D (param_at D o) a)) none
  given_typed params (v ∷ vs) i (a ∷ args) from h =
      let some : slice_get params i ≡ Some v = ap (λ n. slice_get params n) (sym (first_place i)) ∙ sym (from 0) in (
        subst (λ o. IsSlot (slice_get D.vars v.0) (slot D (param_at D o) a)) (sym some) (slot_typed (slice_get D.vars v.0) a h.0),
        given_typed params vs (i + 1) args (λ j. from (suc j) ∙ ap (λ n. slice_get params n) (next_place i j)) h.1,
      )

  no_place : (j : ℕ) → j ≡ 0 + j
  no_place j = omega arith

  slots_typed : (params : List VarId) (args : List Supplied) → AreSupplied args → AreSlots params (slots D params args)
  slots_typed params args h = given_typed params params 0 args (λ j. ap (λ n. slice_get params n) (no_place j)) h

  passed_typed : (vs : List VarId) (ss : List Slot) → AreSlots vs ss → all_filled ss ≡ true
      → (are_typed_passed D (passed_in ss) ≡ true) × (fits_parameters D vs (passed_in ss) ≡ true)
  passed_typed [] [] h f = (refl, refl)
  passed_typed [] (s ∷ ss) h f = absurd (true≢false (sym (both_true (is_filled s) (all_filled ss) f).0 ∙ h))
  passed_typed (v ∷ vs) [] h f = absurd h
  passed_typed (v ∷ vs) (flawed f ∷ ss) h g = absurd (true≢false (sym g))
  passed_typed (v ∷ vs) (filled a ∷ ss) h f =
      let rest = passed_typed vs ss h.1 f in (
        and_true (is_typed_argument D a) (are_typed_passed D (passed_in ss)) h.0.0 rest.0,
        and_true (fits_parameter a (slice_get D.vars v.0)) (fits_parameters D vs (passed_in ss)) h.0.1 rest.1,
      )

  -- ---- calls

  over_slots : (p : ℕ) (qualified : Bool) (of : Object) (ty : Ty) (params : List VarId) (ss : List Slot) → Takes D p ty params → is_typed_object D of ≡ true
      → AreSlots params ss → HasTypes D (call_over p qualified of ty ss)
  over_slots p qualified of ty params ss takes h k = by (all_filled ss) refl
    where
      by : (b : Bool) → all_filled ss ≡ b
          → HasTypes D (cond b (known (typed ty (call (id p) qualified of (passed_in ss)))) (flaws.unknown (slot_flaws_after no_flaw ss)))
      by true e = let all = passed_typed params ss k e in call_typed D p qualified of ty params (passed_in ss) takes h all.0 all.1
      by false e = tt

  pub call_with_typed : (p : ℕ) (qualified : Bool) (of : Object) (ty : Ty) (params : List VarId) (args : List Supplied) → Takes D p ty params
      → is_typed_object D of ≡ true → AreSupplied args → HasTypes D (call_with D p qualified of ty params args)
  call_with_typed p qualified of ty params args takes h k = over_slots p qualified of ty params (slots D params args) takes h (slots_typed params args k)

  called_by : (qualified : Bool) (of : Object) (args : List Supplied) → is_typed_object D of ≡ true → AreSupplied args → (o : Option ℕ)
      → HasTypes D (called_part D qualified of args o)
  called_by qualified of args h k None = tt
  called_by qualified of args h k (Some p) = by (slice_get D.procs p) refl
    where
      by : (o : Option Procedure) → slice_get D.procs p ≡ o → HasTypes D (called_as D p qualified of (result_in o) (params_in o) args)
      by None is = tt
      by (Some x) is =
          either D (is_without_type x.result) (flaws.unknown (with_slack (lacks (mention.Proc (id p))) args)) (call_with D p qualified of x.result x.params args) tt
          (call_with_typed p qualified of x.result x.params args (all_of x is refl refl) h k)

  pub called_typed : (p : ℕ) (qualified : Bool) (of : Object) (args : List Supplied) → is_typed_object D of ≡ true → AreSupplied args
      → HasTypes D (called D p qualified of args)
  called_typed p qualified of args h k = called_by qualified of args h k (value_part D p)

  -- ---- the library

  range_typed : (ty : Ty) (e : Expr) → is_typed D e ≡ true → HasTypes D (in_range ty e)
  range_typed ty e h = either D (fails ty e) (flaws.unknown (breaks 25)) (known e) tt h

  by_wanted_typed : (asks : Ty → Conversion) (e : Expr) (w : Wanted) → is_typed D e ≡ true → HasTypes D (by_wanted D asks e w)
  by_wanted_typed asks e wants.Dimension h = either D (is_dimension e) (wanted D asks e) (flaws.unknown (breaks 3)) (wanted_typed D asks e h) tt
  by_wanted_typed asks e (wants.Converted t) h = over_known D (in_range (ty_of t)) (wanted D asks e) (wanted_typed D asks e h) (range_typed (ty_of t))
  by_wanted_typed asks e _ h = wanted_typed D asks e h

  library_argument_typed : (f : LibCall) (i : ℕ) (parenthesised : Bool) (e : Expr) → is_typed D e ≡ true → HasTypes D (library_argument D f i parenthesised e)
  library_argument_typed f i parenthesised e h =
      either D (parenthesised && is_array_type (type_at e)) (flaws.unknown (breaks 21)) (by_wanted D (argument f i) e (argument_wanted f i)) tt
      (by_wanted_typed (argument f i) e (argument_wanted f i) h)

  library_value_typed : (f : LibCall) (i : ℕ) (parenthesised : Bool) (x : Value) → HasTypedValue x → HasTypes D (library_value D f i parenthesised x)
  library_value_typed f i parenthesised left_out h = tt
  library_value_typed f i parenthesised (given t) h = over_known D (library_argument D f i parenthesised) t h (library_argument_typed f i parenthesised)

  library_arguments_typed : (f : LibCall) (i : ℕ) (args : List Supplied) → AreSupplied args → AllHave D (library_arguments D f i args)
  library_arguments_typed f i [] h = tt
  library_arguments_typed f i (a ∷ rest) h = (library_value_typed f i a.parenthesised a.value h.0, library_arguments_typed f (i + 1) rest h.1)

  pub library_call_typed : (f : LibCall) (args : List Supplied) → AreSupplied args → HasTypes D (library_call_of D f args)
  library_call_typed f args h =
      either D (is_unfit f args) (unfit_call f args) (fit_call D f args) tt
      (over_all D (call_over_exprs f) (library_arguments D f 0 args) (library_arguments_typed f 0 args h) (λ es k. k))

  pub library_typed : (f : LibCall) (args : List Supplied) → AreSupplied args → HasTypes D (library_called D f args)
  library_typed f args h = either D (gives_no_value f) (flaws.unknown (with_slack (breaks 18) args)) (library_call_of D f args) tt (library_call_typed f args h)

  -- ---- elements

  index_typed : (x : Value) → HasTypedValue x → HasTypes D (index_value D x)
  index_typed left_out h = tt
  index_typed (given t) h = over_known D (wanted D index) t h (wanted_typed D index)

  indexes_typed : (args : List Supplied) → AreSupplied args → AllHave D (map (index_of D) args)
  indexes_typed [] h = tt
  indexes_typed (a ∷ rest) h =
      (either D (is_worded a) (flaws.unknown (together (breaks 18) (value_flaw a.value))) (index_value D a.value) tt (index_typed a.value h.0), indexes_typed rest h.1)

  pub element_typed : (e : Expr) (args : List Supplied) → is_typed D e ≡ true → AreSupplied args → HasTypes D (element_of D e args)
  element_typed e args h k =
      over_all D (element_at e) (map (index_of D) args) (indexes_typed args k) (λ es l. and_true (is_typed D e) (are_typed D es) h l)

  -- ---- Err.Raise and Err.Clear

  raised_typed : (e : Expr) → is_typed D e ≡ true → HasTypes D (raised D e)
  raised_typed e h = over_known D (λ (x : Expr). known (typed nothing (err_raise x))) (wanted D error_number e) (wanted_typed D error_number e h) (λ x k. k)

  raised_value_typed : (x : Value) → HasTypedValue x → HasTypes D (raised_value D x)
  raised_value_typed left_out h = tt
  raised_value_typed (given t) h = over_known D (raised D) t h raised_typed

  raise_typed : (args : List Supplied) → AreSupplied args → HasTypes D (raise_of D args)
  raise_typed [] h = tt
  raise_typed (a ∷ []) h =
      either D (is_worded a) (flaws.unknown (together (breaks 18) (value_flaw a.value))) (raised_value D a.value) tt (raised_value_typed a.value h.0)
  raise_typed (a ∷ c ∷ rest) h = tt

  clear_typed : (args : List Supplied) → HasTypes D (clear_of args)
  clear_typed [] = refl
  clear_typed (a ∷ rest) = tt

  pub err_typed : (m : ErrMember) (args : List Supplied) → AreSupplied args → HasTypes D (err_statement D m args)
  err_typed err_members.Raise args h = raise_typed args h
  err_typed err_members.Clear args h = clear_typed args
