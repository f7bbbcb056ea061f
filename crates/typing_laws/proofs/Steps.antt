-- The steps of the induction over expressions: calls of the library, elements, and arguments, by what is known of their parts.
use Rattle.std.proofs.Common.{false, ◌≡◌, refl, sym, ap, ◌∙◌, subst, ℕ, suc, ◌+◌, ℤ, arith, Bool, true, ◌&&◌, true≢false, List, [], ◌∷◌, Some, ◌⊎◌, inl, inr}
use Rattle.std.specs.Prelude.{slice_get}
use Rattle.std.specs.List.{list_all}
use Rattle.up_base.proofs.Tests.{and_true, both_true, either}
use Rattle.vb_tree.specs.BoundTree.{Ty}
use Rattle.vb_tree.specs.BoundTree as types
use Rattle.vb_tree.specs.declared.bound.LibCall.{LibCall}
use Rattle.vb_tree.specs.declared.bound.LibCall.TheVariants as lib
use Rattle.vb_tree.specs.declared.declared.VarId.{VarId}
use Rattle.bound_tree.specs.declared.body.Mention.{Mention}
use Rattle.bound_tree.specs.Tree.{Declarations, Procedure, Expr, typed, variable, element, library, Exprs, no_exprs, next_expr, Argument, Passed}
use Rattle.bound_tree.specs.Tree as tree
use Rattle.bound_facts.specs.Locks.{is_same_type}
use Rattle.bound_facts.specs.Node.{type_at}
use Rattle.row_laws.proofs.Composing.{then_assoc}
use Rattle.run_base.specs.Outcomes.{Outcome, then}
use Rattle.written_trees.specs.Arguments.{is_reference_owner, takes_reference}
use Rattle.vb6_run.specs.Expressions.{Context, declared, value_of, scalar_value, scalar_in, long_in, whole_number, parts_of, indexes_of, argument_of, library_call, values_of}
use Rattle.vb6_run.specs.Store.{Memory}
use Rattle.run_matches.specs.CoveredVariables.{covers_type}
use Rattle.run_matches.specs.CoveredExprs.{Uses, covers_argument, covers_array, covers_dimension, covers_expr, covers_exprs, covers_library, covers_place, covers_term, is_bound}
use Rattle.run_matches.specs.Covered.{is_referred, suits_argument, suits_array, suits_group}
use Rattle.run_matches.specs.Formed.{are_longs, has_elements, is_row_of_call, types_of}
use Rattle.typing_laws.specs.Flat.{has_flat_variables, flat_uses, outer_uses}
use Rattle.run_matches.specs.UserTypes.{is_user}
use Rattle.typing_laws.specs.Calls.{CallsKeep, SourceJob}
use Rattle.typing_laws.specs.Frames.{IsGiven}
use Rattle.typing_laws.specs.Leaving.{Leaves, ExprsLeave, passed_value}
use Rattle.typing_laws.specs.Typed.{fits_parameter, fits_type, is_typed_argument, is_unknown}
use Rattle.typing_laws.proofs.Ends.{Ends}
use Rattle.typing_laws.proofs.Expressions.{Fits, IsTerm, IsTyped, fit_same, fitting, value_call_ends}
use Rattle.typing_laws.proofs.Library.{ArePlain}
use Rattle.typing_laws.proofs.Plain.{same_as}
use Rattle.typing_laws.proofs.Procedures.{Parameter}
use Rattle.typing_laws.proofs.Fields.{same_users}
use Rattle.typing_laws.proofs.Groups.{place_by_reference, place_by_value}
use Rattle.typing_laws.proofs.Flat.{NamesArray, ReferenceKind, array_named, place_user, reference_covered, value_covered}
use Rattle.typing_laws.proofs.Arguments.{array_given, by_value_ends, reference_ends}
use Rattle.typing_laws.proofs.Bounds.{bounds_end}
use Rattle.typing_laws.proofs.Elements.{AreIndexes, found_ends}
use Rattle.typing_laws.proofs.Found.{HasAddress, IsRight}
use Rattle.typing_laws.proofs.Made.{FlatKind, flat_kinds, flat_known}
use Rattle.typing_laws.proofs.Uses.{UsedArray, array_use_is}
use Rattle.typing_laws.proofs.Values.{Callee, covered_type, input_ends, no_arguments, reference_at}
use Rattle.typing_laws.specs.Frames.{Footprint, Ground, ground}

-- ---- calls of the library

module _ (C : Context) (F : Footprint) (X : SourceJob → Memory → Type 0) (calls : CallsKeep C F X) (mentions : List Mention) (w : Memory) (fits : Fits C F w) (ty : Ty) (e : Expr)
    (rest : Exprs) (c : covers_type ty ≡ true)
    (h : (v : Memory) → Fits C F v → Ends (ground (declared C) F) (IsTyped (type_at e)) (Leaves C X e v) v (value_of C e v))
    (i : (v : Memory) → Fits C F v → Ends (ground (declared C) F) (λ u xs. ArePlain (types_of rest) xs) (ExprsLeave C X rest v) v (values_of C rest v)) where
  nothing_covered : is_same_type types.nothing ty ≡ true → ⊥
  nothing_covered e = true≢false (sym c ∙ sym (ap covers_type (same_as types.nothing ty c e)))

  library_ends : (f : LibCall) → covers_library f ≡ true → is_row_of_call f (types_of (next_expr e rest)) ty ≡ true
      → Ends (ground (declared C) F) (IsTerm ty) (Leaves C X (typed ty (library f (next_expr e rest))) w) w (library_call C ty f (next_expr e rest) w)
  library_ends lib.Len l row = value_call_ends C F X calls mentions w fits ty lib.Len e rest c refl (λ p v. refl) row h i
  library_ends lib.Left l row = value_call_ends C F X calls mentions w fits ty lib.Left e rest c refl (λ p v. refl) row h i
  library_ends lib.Right l row = value_call_ends C F X calls mentions w fits ty lib.Right e rest c refl (λ p v. refl) row h i
  library_ends lib.Mid l row = value_call_ends C F X calls mentions w fits ty lib.Mid e rest c refl (λ p v. refl) row h i
  library_ends lib.Trim l row = value_call_ends C F X calls mentions w fits ty lib.Trim e rest c refl (λ p v. refl) row h i
  library_ends lib.LTrim l row = value_call_ends C F X calls mentions w fits ty lib.LTrim e rest c refl (λ p v. refl) row h i
  library_ends lib.RTrim l row = value_call_ends C F X calls mentions w fits ty lib.RTrim e rest c refl (λ p v. refl) row h i
  library_ends lib.UCase l row = value_call_ends C F X calls mentions w fits ty lib.UCase e rest c refl (λ p v. refl) row h i
  library_ends lib.LCase l row = value_call_ends C F X calls mentions w fits ty lib.LCase e rest c refl (λ p v. refl) row h i
  library_ends lib.Space l row = value_call_ends C F X calls mentions w fits ty lib.Space e rest c refl (λ p v. refl) row h i
  library_ends lib.Chr l row = value_call_ends C F X calls mentions w fits ty lib.Chr e rest c refl (λ p v. refl) row h i
  library_ends lib.Asc l row = value_call_ends C F X calls mentions w fits ty lib.Asc e rest c refl (λ p v. refl) row h i
  library_ends lib.InStr l row = value_call_ends C F X calls mentions w fits ty lib.InStr e rest c refl (λ p v. refl) row h i
  library_ends lib.Abs l row = value_call_ends C F X calls mentions w fits ty lib.Abs e rest c refl (λ p v. refl) row h i
  library_ends lib.CBool l row = value_call_ends C F X calls mentions w fits ty lib.CBool e rest c refl (λ p v. refl) row h i
  library_ends lib.CByte l row = value_call_ends C F X calls mentions w fits ty lib.CByte e rest c refl (λ p v. refl) row h i
  library_ends lib.CInt l row = value_call_ends C F X calls mentions w fits ty lib.CInt e rest c refl (λ p v. refl) row h i
  library_ends lib.CLng l row = value_call_ends C F X calls mentions w fits ty lib.CLng e rest c refl (λ p v. refl) row h i
  library_ends lib.CCur l row = value_call_ends C F X calls mentions w fits ty lib.CCur e rest c refl (λ p v. refl) row h i
  library_ends lib.CStr l row = value_call_ends C F X calls mentions w fits ty lib.CStr e rest c refl (λ p v. refl) row h i
  library_ends lib.IsEmpty l row = absurd (true≢false (sym l))
  library_ends lib.UBound l row = absurd (true≢false (sym l))
  library_ends lib.LBound l row = absurd (true≢false (sym l))
  library_ends lib.MsgBox l row = absurd (nothing_covered (both_true (is_same_type types.nothing ty) _ row).0)
  library_ends lib.InputBox l row = input_ends C F X calls mentions w fits ty e rest c row (h w fits)

-- a bound of an array is a Long
row_long : (f : LibCall) (ts : List Ty) (ty : Ty) → is_bound f ≡ true → is_row_of_call f ts ty ≡ true → is_same_type types.long ty ≡ true
row_long lib.UBound ts ty b r = r
row_long lib.LBound ts ty b r = r
row_long _ ts ty b r = absurd (true≢false (sym b))

-- indexes are Longs
abbrev pub all_longs : List Ty → Bool
all_longs ts = list_all (λ (t : Ty). is_same_type types.long t) ts

pub longs_all : (ts : List Ty) → are_longs ts ≡ true → all_longs ts ≡ true
longs_all (t ∷ []) h = and_true (is_same_type types.long t) true h refl
longs_all (s ∷ t ∷ []) h =
    let b = both_true (is_same_type types.long s) (is_same_type types.long t) h in
    and_true (is_same_type types.long s) (is_same_type types.long t && true) b.0 (and_true (is_same_type types.long t) true b.1 refl)
longs_all [] h = absurd (true≢false (sym h))
longs_all (s ∷ t ∷ u ∷ ts) h = absurd (true≢false (sym h))

some_index : (indexes : Exprs) → are_longs (types_of indexes) ≡ true → (zs : List ℤ) → AreIndexes indexes zs → zs ≡ [] → ⊥
some_index no_exprs h zs i = absurd (true≢false (sym h))
some_index (next_expr e rest) h zs i = i

pub more_indexes : (z : ℤ) (zs : List ℤ) → z ∷ zs ≡ [] → ⊥
more_indexes z zs e = cc e

-- what is known of a callee whose arguments are evaluated
pub record Called (C : Context) (q : ℕ) : Type 0 where
  pub procedure : Procedure
  pub is_procedure : slice_get (declared C).procs q ≡ Some procedure
  pub variables : has_flat_variables C.runnable.program q ≡ true

abbrev pub called_of : (C : Context) (q : ℕ) (ty : Ty) (args : Passed) → Callee C q ty args → Called C q
called_of C q ty args callee = record {
  procedure = callee.parts.head.procedure;
  is_procedure = callee.parts.head.is_procedure;
  variables = callee.parts.variables;
}

pub no_place : (j : ℕ) → j ≡ 0 + j
no_place j = omega arith

pub first_place : (i : ℕ) → i + 0 ≡ i
first_place i = omega arith

pub next_place : (i j : ℕ) → i + suc j ≡ suc i + j
next_place i j = omega arith

scalar_apart : (s t : Ty) → covers_type s ≡ true → is_user t ≡ true → is_same_type s t ≡ true → ⊥
scalar_apart types.boolean (types.user t) c u h = true≢false (sym h)
scalar_apart types.byte (types.user t) c u h = true≢false (sym h)
scalar_apart types.integer (types.user t) c u h = true≢false (sym h)
scalar_apart types.long (types.user t) c u h = true≢false (sym h)
scalar_apart types.currency (types.user t) c u h = true≢false (sym h)
scalar_apart types.str (types.user t) c u h = true≢false (sym h)
scalar_apart _ (types.user t) c u h = true≢false (sym c)
scalar_apart s _ c u h = true≢false (sym u)

array_apart : (e : Ty) (rank : ℕ) (t : Ty) → is_user t ≡ true → is_same_type (types.array e rank) t ≡ true → ⊥
array_apart e rank (types.user t) u h = true≢false (sym h)
array_apart e rank _ u h = true≢false (sym u)

user_known : (t : Ty) → is_user t ≡ true → is_unknown t ≡ false
user_known (types.user t) h = refl
user_known _ h = absurd (true≢false (sym h))

-- ---- all expressions

module _ (C : Context) (F : Footprint) (X : SourceJob → Memory → Type 0) (calls : CallsKeep C F X) (mentions : List Mention) where
  abbrev D : Declarations
  D = declared C

  abbrev K : Ground
  K = ground (declared C) F

  abbrev uses : Uses
  uses = flat_uses C.runnable.program C.procedure mentions

  abbrev all_uses : Uses
  all_uses = outer_uses C.runnable.program C.procedure mentions

  abbrev Right : Expr → Memory → Type 0
  Right e w = IsRight C F X e w

  -- ---- elements and bounds

  pub element_found : (w : Memory) → Fits C F w → (ty : Ty) (a : Expr) (indexes : Exprs) → covers_type ty ≡ true → NamesArray uses a → has_elements (type_at a) ty ≡ true
      → are_longs (types_of indexes) ≡ true → Ends K (λ v zs. AreIndexes indexes zs) (ExprsLeave C X indexes w) w (indexes_of C indexes w)
      → HasAddress C F X (typed ty (element a indexes)) w
  element_found w fits ty a indexes c n has longs idx =
      let same : n.element ≡ ty = same_as n.element ty c (sym (ap (λ d. has_elements (type_at d) ty) n.is) ∙ has) in
      let u : UsedArray D C.procedure n.variable ty =
      (array_use_is C.runnable.program C.procedure mentions n.variable ty (subst (λ t. uses.array n.variable t ≡ true) same n.used)).0 in
      let is : a ≡ typed (types.array ty n.rank) (variable n.variable n.qualified) =
      n.is ∙ ap (λ t. typed (types.array t n.rank) (variable n.variable n.qualified)) same in
      subst (λ d. HasAddress C F X (typed ty (element d indexes)) w) (sym is)
      (found_ends C F X ty n.rank n.variable n.qualified indexes u w fits idx (some_index indexes longs))

  pub library_right : (w : Memory) → Fits C F w → (ty : Ty) (f : LibCall) (e : Expr) (rest : Exprs) → covers_type ty ≡ true
      → covers_term uses (library f (next_expr e rest)) ≡ true → is_row_of_call f (types_of (next_expr e rest)) ty ≡ true
      → (covers_expr uses e ≡ true → (v : Memory) → Fits C F v → Ends K (IsTyped (type_at e)) (Leaves C X e v) v (value_of C e v))
      → (covers_exprs uses rest ≡ true → (v : Memory) → Fits C F v → Ends K (λ u xs. ArePlain (types_of rest) xs) (ExprsLeave C X rest v) v (values_of C rest v))
      → Ends K (IsTerm ty) (Leaves C X (typed ty (library f (next_expr e rest))) w) w (library_call C ty f (next_expr e rest) w)
  library_right w fits ty f e rest c covers row h i =
      by (either (covers_library f && (covers_expr uses e && covers_exprs uses rest)) (is_bound f && (covers_array uses e && covers_dimension rest)) covers)
    where
      bounded : is_bound f ≡ true → (n : NamesArray uses e) (t : Ty) → types.long ≡ t
          → Ends K (IsTerm t) (Leaves C X (typed t (library f (next_expr e rest))) w) w (library_call C t f (next_expr e rest) w)
      bounded b n t same =
          let u : UsedArray D C.procedure n.variable n.element =
          (array_use_is C.runnable.program C.procedure mentions n.variable n.element n.used).0 in
          subst (λ s. Ends K (IsTerm s) (Leaves C X (typed s (library f (next_expr e rest))) w) w (library_call C s f (next_expr e rest) w)) same
          (subst (λ d. Ends K (IsTerm types.long) (Leaves C X (typed types.long (library f (next_expr d rest))) w) w (library_call C types.long f (next_expr d rest) w)) (sym n.is)
          (bounds_end C F X n.element n.rank n.variable n.qualified rest u w fits f b))

      by : (covers_library f && (covers_expr uses e && covers_exprs uses rest) ≡ true) ⊎ (is_bound f && (covers_array uses e && covers_dimension rest) ≡ true)
          → Ends K (IsTerm ty) (Leaves C X (typed ty (library f (next_expr e rest))) w) w (library_call C ty f (next_expr e rest) w)
      by (inl k) =
          let known = both_true (covers_library f) (covers_expr uses e && covers_exprs uses rest) k in
          let operands = both_true (covers_expr uses e) (covers_exprs uses rest) known.1 in
          library_ends C F X calls mentions w fits ty e rest c (h operands.0) (i operands.1) f known.0 row
      by (inr k) =
          let b = both_true (is_bound f) (covers_array uses e && covers_dimension rest) k in
          bounded b.0 (array_named uses e (both_true (covers_array uses e) (covers_dimension rest) b.1).0) ty
          (same_as types.long ty c (row_long f (types_of (next_expr e rest)) ty b.0 row))

  pub no_library : (f : LibCall) (ty : Ty) → covers_term uses (library f no_exprs) ≡ true → is_row_of_call f [] ty ≡ true → ⊥
  no_library f ty covers row = by (either (covers_library f && true) (is_bound f && false) covers)
    where
      by : (covers_library f && true ≡ true) ⊎ (is_bound f && false ≡ true) → ⊥
      by (inl k) = no_arguments f ty (both_true (covers_library f) true k).0 row
      by (inr k) = true≢false (sym (both_true (is_bound f) false k).1)

  -- parameters from one place on stand among those of the procedure
  abbrev pub StandFrom : Procedure → (place : ℕ) → List VarId → Type 0
  StandFrom x i vs = (j : ℕ) → slice_get vs j ≡ slice_get x.params (i + j)

  -- a parameter that is given a user type is of that type
  user_parameter : (q : ℕ) (p : VarId) (y : Parameter C.runnable.program q p) (ty : Ty) → is_user ty ≡ true → fits_type y.variable.ty ty ≡ true → ty ≡ y.variable.ty
  user_parameter q p y ty user fit = by (flat_kinds D y.variable y.flat)
    where
      same : is_same_type y.variable.ty ty ≡ true
      same = fit_same y.variable.ty ty (flat_known D y.variable y.flat) (user_known ty user) fit

      by : FlatKind D y.variable → ty ≡ y.variable.ty
      by (inl c) = absurd (scalar_apart y.variable.ty ty c user same)
      by (inr (inl a)) = absurd (array_apart a.element a.rank ty user (sym (ap (λ t. is_same_type t ty) a.is_type) ∙ same))
      by (inr (inr u)) = sym (same_users y.variable.ty ty (ap is_user u.is_type) same)

  pub given_ends : (q i : ℕ) (k : Called C q) (p : VarId) (y : Parameter C.runnable.program q p) → slice_get k.procedure.params i ≡ Some p → (a : Argument)
      → covers_argument uses a ≡ true → is_typed_argument D a ≡ true → fits_parameter a (slice_get D.vars p.0) ≡ true → suits_argument D q i a ≡ true
      → (w : Memory) → Fits C F w → (covers_expr uses (passed_value a) ≡ true → Right (passed_value a) w)
      → Ends K (λ v g. IsGiven K v (slice_get D.vars p.0) g) (Leaves C X (passed_value a) w) w (argument_of C (C.runnable.quiet q i) a w)
  given_ends q i k p y at (tree.by_value e) covers typing fit suit w fits h =
      subst (λ o. Ends K (λ v g. IsGiven K v o g) (Leaves C X e w) w (argument_of C (C.runnable.quiet q i) (tree.by_value e) w)) (sym y.is_variable)
      (by (value_covered all_uses e covers) (sym (ap (λ o. fits_parameter (tree.by_value e) o) y.is_variable) ∙ fit))
    where
      by : (covers_expr uses e ≡ true) ⊎ (covers_place uses e ≡ true) → fits_type y.variable.ty (type_at e) ≡ true
          → Ends K (λ v g. IsGiven K v (Some y.variable) g) (Leaves C X e w) w (argument_of C (C.runnable.quiet q i) (tree.by_value e) w)
      by (inl c) fit =
          by_value_ends C F X calls mentions w y.variable e (C.runnable.quiet q i)
          (fitting y.variable.ty (type_at e) (flat_known D y.variable y.flat) (covered_type C F X calls mentions e c) fit) (h c).0
      by (inr c) fit =
          let user = place_user all_uses e c in
          place_by_value C F mentions (Leaves C X e w) w fits y.variable e (C.runnable.quiet q i) c user (user_parameter q p y (type_at e) user fit)
  given_ends q i k p y at (tree.by_reference e) covers typing fit suit w fits h =
      let b = both_true (takes_reference D q i) (is_referred e && (suits_array D q i e && suits_group D q i e)) suit in
      let r = both_true (is_referred e) (suits_array D q i e && suits_group D q i e) b.1 in
      subst (λ o. Ends K (λ v g. IsGiven K v o g) (Leaves C X e w) w (argument_of C (C.runnable.quiet q i) (tree.by_reference e) w)) (sym y.is_variable)
      (by (reference_covered all_uses e covers) r.0 (sym (ap (λ o. fits_parameter (tree.by_reference e) o) y.is_variable) ∙ fit)
      (reference_at D q i k.procedure p y.variable k.is_procedure at y.is_variable b.0) h)
    where
      by : ReferenceKind all_uses e → is_referred e ≡ true → fits_type y.variable.ty (type_at e) ≡ true → is_reference_owner y.variable.owner ≡ true
          → (covers_expr uses e ≡ true → Right e w)
          → Ends K (λ v g. IsGiven K v (Some y.variable) g) (Leaves C X e w) w (argument_of C (C.runnable.quiet q i) (tree.by_reference e) w)
      by (inl c) referred fit reference h =
          reference_ends C F X calls mentions w fits y.variable e (C.runnable.quiet q i) c.covers c.passes typing referred
          (fitting y.variable.ty (type_at e) (flat_known D y.variable y.flat) (covered_type C F X calls mentions e c.covers) fit) reference (h c.covers)
      by (inr (inr c)) referred fit reference h =
          let user = place_user all_uses e c in
          place_by_reference C F mentions (Leaves C X e w) w fits y.variable e (C.runnable.quiet q i) c user (user_parameter q p y (type_at e) user fit) reference
      by (inr (inl n)) referred fit reference h = array_given C F X calls mentions w fits y.variable e (C.runnable.quiet q i) n y.flat fit reference

  -- the value of an index
  pub long_then : {B : Type 0} (e : Expr) (w : Memory) (k : ℤ → Memory → Outcome Memory B)
      → then (then (parts_of C e w) (long_in C e)) k ≡ then (scalar_value C e w) (λ x v. then (whole_number x v) k)
  long_then e w k =
      ap (λ r. then r k) (sym (then_assoc (parts_of C e w) (scalar_in C e) whole_number)) ∙ then_assoc (scalar_value C e w) whole_number k
