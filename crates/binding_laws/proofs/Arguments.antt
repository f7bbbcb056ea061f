-- Arguments, calls and elements: each has a type, or a cause why it has none.
use Rattle.std.proofs.Common.{◌≡◌, ℕ, Bool, true, false, cond, List, [], ◌∷◌, ◌++◌, map, length, Option, Some, None, refl}
use Rattle.std.specs.Prelude.{◌+◌, ◌&&◌, ◌||◌, not, drop, slice_get}
use Rattle.std.specs.List.{list_any}
use Rattle.vb_tree.specs.BoundTree.{Ty, nothing}
use Rattle.vb_tree.specs.declared.bound.LibCall.{LibCall}
use Rattle.vb_tree.specs.declared.declared.VarId.{VarId}
use Rattle.bound_tree.specs.declared.body.Mention.TheVariants as mention
use Rattle.bound_tree.specs.Tree.{Variable, Procedure, Declarations, Expr, typed, Object, call, err_raise}
use Rattle.bound_facts.specs.Node.{type_at, is_array_type}
use Rattle.typing_rows.specs.declared.conversions.Conversion.{Conversion}
use Rattle.typing_rows.specs.declared.conversions.Conversion.TheVariants.{Stands, To, Breaks}
use Rattle.typing_rows.specs.declared.conversions.Conversion.TheVariants as conversions
use Rattle.typing_rows.specs.declared.library.Wanted.{Wanted}
use Rattle.typing_rows.specs.declared.library.Wanted.TheVariants as wants
use Rattle.typing_rows.specs.declared.simple_types.SimpleType.{SimpleType}
use Rattle.typing_rows.specs.Conversions.{converts, index, error_number}
use Rattle.typing_rows.specs.Library.{has_count, argument, argument_wanted, result_type}
use Rattle.typing_rows.specs.Types.{ty_of}
use Rattle.vb_tree.specs.BoundTree.{long}
use Rattle.expression_words.specs.declared.lookups.ErrMember.{ErrMember}
use Rattle.expression_words.specs.declared.lookups.ErrMember.TheVariants as err_members
use Rattle.expression_words.specs.declared.typed.Flaw.{Flaw}
use Rattle.expression_words.specs.Flaws as flaws
use Rattle.expression_words.specs.Flaws.{Typed, known, no_flaw, breaks, breaks_if, lacks, together, flaw_of, on_known, on_all}
use Rattle.expression_words.specs.Converting.{fails, id, preset_at, preset_of, wanted}
use Rattle.expression_words.specs.Members.{value_part, result_in, params_in}
use Rattle.expression_words.specs.Passing.{Value, left_out, given, Supplied, is_left_out, value_flaw, is_worded, slack, slack_after, with_slack, Slot, filled, flawed, slot_flaw, all_filled, slot_flaws_after, passed_in, slot_by_value, is_place, is_reference, pass_value, array_slot, pass_array, place_slot, pass_reference, pass_typed, preset_slot_of, preset_slot, value_slot, slot, param_at, given_slots, slots, call_over, call_with, called_part, called}
use Rattle.expression_words.specs.LibraryCalls.{is_dimension, in_range, by_wanted, library_argument, library_value, library_arguments, is_without_value, is_slack, first_type, result_or_nothing, call_over_exprs, is_unfit, unfit_call, fit_call, library_call_of, gives_no_value, library_called}
use Rattle.expression_words.specs.Elements.{index_value, index_of, element_type, element_at, element_of}
use Rattle.expression_words.specs.ErrStatements.{raised, raised_value, raise_of, clear_of, err_statement}
use Rattle.binding_laws.specs.Causes.{has_cause, is_known_type, is_whole, is_rule, AreWhole, IsFounded}
use Rattle.binding_laws.proofs.Founded.{each_at, result_whole, either, told, over_known, over_all, AreFounded, wanted_founded}
use Rattle.binding_laws.proofs.Numbers.{IsNamed, converts_named, argument_named, simple_known}
use Rattle.binding_laws.proofs.Rules.{rule_caused, left_caused, right_caused}

-- ---- arguments

abbrev pub HasFoundedValue : Value → Type 0
HasFoundedValue left_out = Unit {0}
HasFoundedValue (given t) = IsFounded t

abbrev pub AreSupplied : List Supplied → Type 0
AreSupplied [] = Unit {0}
AreSupplied (a ∷ rest) = HasFoundedValue a.value × AreSupplied rest

pub slack_kept : (f : Flaw) (args : List Supplied) → has_cause f ≡ true → has_cause (slack_after f args) ≡ true
slack_kept f [] h = h
slack_kept f (a ∷ rest) h = slack_kept (together f (slack a)) rest (left_caused f (slack a) h)

pub rule_with_slack : (n : ℕ) (args : List Supplied) → is_rule n ≡ true → has_cause (with_slack (breaks n) args) ≡ true
rule_with_slack n args h = slack_kept (breaks n) args (rule_caused n h)

slack_caused : (a : Supplied) → HasFoundedValue a.value → is_slack a ≡ true → has_cause (slack a) ≡ true
slack_caused a h k = by (is_worded a) a.value h k
  where
    by : (worded : Bool) (x : Value) → HasFoundedValue x → (worded || is_without_value x) ≡ true → has_cause (together (breaks_if 18 (worded || is_left_out x)) (value_flaw x)) ≡ true
    by true x h k = left_caused (breaks 18) (value_flaw x) (rule_caused 18 refl)
    by false left_out h k = left_caused (breaks 18) no_flaw (rule_caused 18 refl)
    by false (given (known e)) h k = absurd (cc k)
    by false (given (flaws.unknown f)) h k = right_caused (breaks_if 18 false) f h

some_slack : (f : Flaw) (args : List Supplied) → AreSupplied args → list_any is_slack args ≡ true → has_cause (slack_after f args) ≡ true
some_slack f [] h k = absurd (cc k)
some_slack f (a ∷ rest) h k = by (is_slack a) refl k (some_slack (together f (slack a)) rest h.1)
  where
    by : (b : Bool) → is_slack a ≡ b → (b || list_any is_slack rest) ≡ true → (list_any is_slack rest ≡ true → has_cause (slack_after (together f (slack a)) rest) ≡ true) → has_cause (slack_after (together f (slack a)) rest) ≡ true
    by true e k next = slack_kept (together f (slack a)) rest (right_caused f (slack a) (slack_caused a h.0 e))
    by false e k next = next k

-- ---- what parameters are given

abbrev IsSlot : Slot → Type 0
IsSlot (filled a) = Unit {0}
IsSlot (flawed f) = has_cause f ≡ true

abbrev AreSlots : List Slot → Type 0
AreSlots [] = Unit {0}
AreSlots (s ∷ rest) = IsSlot s × AreSlots rest

slots_append : (xs ys : List Slot) → AreSlots xs → AreSlots ys → AreSlots (xs ++ ys)
slots_append [] ys h k = k
slots_append (x ∷ xs) ys h k = (h.0, slots_append xs ys h.1 k)

either_slot : (test : Bool) (s t : Slot) → IsSlot s → IsSlot t → IsSlot (cond test s t)
either_slot true s t h k = h
either_slot false s t h k = k

by_value_slot : (t : Typed) → IsFounded t → IsSlot (slot_by_value t)
by_value_slot (known e) h = tt
by_value_slot (flaws.unknown f) h = h

value_passed : (D : Declarations) → AreWhole D → (ty : Ty) (e : Expr) → IsFounded (known e) → IsSlot (pass_value D ty e)
value_passed D are ty e h = by_value_slot (wanted D (λ s. converts s ty) e) (wanted_founded D are (λ s. converts s ty) (λ s. converts_named s ty) e h)

array_passed : (e : Expr) (c : Conversion) → IsNamed c → IsSlot (array_slot e c)
array_passed e Stands n = tt
array_passed e (To t) n = rule_caused 21 refl
array_passed e conversions.ByDefault n = rule_caused 21 refl
array_passed e (Breaks rule) n = rule_caused rule n

place_passed : (D : Declarations) → AreWhole D → (ty : Ty) (e : Expr) (c : Conversion) → IsNamed c → IsFounded (known e) → IsSlot (place_slot D ty e c)
place_passed D are ty e Stands n h = tt
place_passed D are ty e (To t) n h = tt
place_passed D are ty e conversions.ByDefault n h = value_passed D are ty e h
place_passed D are ty e (Breaks rule) n h = rule_caused rule n

reference_passed : (D : Declarations) → AreWhole D → (parenthesised : Bool) (ty : Ty) (e : Expr) → IsFounded (known e) → IsSlot (pass_reference D parenthesised ty e)
reference_passed D are parenthesised ty e h =
    let c = converts (type_at e) ty in
    let n = converts_named (type_at e) ty in
    either_slot (is_array_type ty) (pass_array parenthesised ty e) (cond (not parenthesised && is_place e) (place_slot D ty e c) (pass_value D ty e))
    (either_slot parenthesised (flawed (breaks 21)) (array_slot e c) (rule_caused 21 refl) (array_passed e c n))
    (either_slot (not parenthesised && is_place e) (place_slot D ty e c) (pass_value D ty e) (place_passed D are ty e c n h) (value_passed D are ty e h))

typed_passed : (D : Declarations) → AreWhole D → (v : Variable) (parenthesised : Bool) (t : Typed) → IsFounded t → IsSlot (pass_typed D v parenthesised t)
typed_passed D are v parenthesised (known e) h =
    either_slot (is_reference v.owner) (pass_reference D parenthesised v.ty e) (pass_value D v.ty e) (reference_passed D are parenthesised v.ty e h) (value_passed D are v.ty e h)
typed_passed D are v parenthesised (flaws.unknown f) h = h

preset_passed : (o : Option Expr) → IsSlot (preset_slot_of o)
preset_passed None = rule_caused 18 refl
preset_passed (Some e) = tt

supplied_passed : (D : Declarations) → AreWhole D → (v : Variable) (parenthesised : Bool) (x : Value) → HasFoundedValue x → IsSlot (value_slot D v parenthesised x)
supplied_passed D are v parenthesised left_out h = preset_passed (preset_of (Some v))
supplied_passed D are v parenthesised (given t) h = typed_passed D are v parenthesised t h

slot_founded : (D : Declarations) → AreWhole D → (o : Option Variable) (a : Supplied) → HasFoundedValue a.value → IsSlot (slot D o a)
slot_founded D are None a h = left_caused (breaks 18) (value_flaw a.value) (rule_caused 18 refl)
slot_founded D are (Some v) a h =
    either_slot (is_worded a) (flawed (together (breaks 18) (value_flaw a.value))) (value_slot D v a.parenthesised a.value)
    (left_caused (breaks 18) (value_flaw a.value) (rule_caused 18 refl)) (supplied_passed D are v a.parenthesised a.value h)

given_founded : (D : Declarations) → AreWhole D → (params : List VarId) (i : ℕ) (args : List Supplied) → AreSupplied args → AreSlots (given_slots D params i args)
given_founded D are params i [] h = tt
given_founded D are params i (a ∷ rest) h = (slot_founded D are (param_at D (slice_get params i)) a h.0, given_founded D are params (i + 1) rest h.1)

presets_founded : (D : Declarations) (params : List VarId) → AreSlots (map (preset_slot D) params)
presets_founded D [] = tt
presets_founded D (v ∷ params) = (preset_passed (preset_at D v), presets_founded D params)

slots_founded : (D : Declarations) → AreWhole D → (params : List VarId) (args : List Supplied) → AreSupplied args → AreSlots (slots D params args)
slots_founded D are params args h = slots_append (given_slots D params 0 args) (map (preset_slot D) (drop (length args) params)) (given_founded D are params 0 args h) (presets_founded D (drop (length args) params))

after_slots : (f : Flaw) (ss : List Slot) → has_cause f ≡ true → has_cause (slot_flaws_after f ss) ≡ true
after_slots f [] h = h
after_slots f (s ∷ ss) h = after_slots (together f (slot_flaw s)) ss (left_caused f (slot_flaw s) h)

some_slot : (f : Flaw) (ss : List Slot) → AreSlots ss → all_filled ss ≡ false → has_cause (slot_flaws_after f ss) ≡ true
some_slot f [] h k = absurd (cc k)
some_slot f (filled a ∷ ss) h k = some_slot (together f no_flaw) ss h.1 k
some_slot f (flawed g ∷ ss) h k = after_slots (together f g) ss (right_caused f g h.0)

-- ---- calls

over_slots : (p : ℕ) (qualified : Bool) (of : Object) (ty : Ty) (ss : List Slot) → is_known_type ty ≡ true → AreSlots ss → IsFounded (call_over p qualified of ty ss)
over_slots p qualified of ty ss h k = by (all_filled ss) refl
  where
    by : (b : Bool) → all_filled ss ≡ b → IsFounded (cond b (known (typed ty (call (id p) qualified of (passed_in ss)))) (flaws.unknown (slot_flaws_after no_flaw ss)))
    by true e = h
    by false e = some_slot no_flaw ss k e

called_by : (D : Declarations) → AreWhole D → (qualified : Bool) (of : Object) (args : List Supplied) → AreSupplied args → (o : Option ℕ) → IsFounded (called_part D qualified of args o)
called_by D are qualified of args h None = rule_with_slack 3 args refl
called_by D are qualified of args h (Some p) =
    let result = result_in (slice_get D.procs p) in
    let params = params_in (slice_get D.procs p) in
    told result (flaws.unknown (with_slack (lacks (mention.Proc (id p))) args)) (call_with D p qualified of result params args)
    (result_whole (slice_get D.procs p) (each_at (λ (q : Procedure). is_whole q.result) D.procs p are.results)) (slack_kept (lacks (mention.Proc (id p))) args refl)
    (λ k. over_slots p qualified of result (slots D params args) k (slots_founded D are params args h))

pub called_founded : (D : Declarations) → AreWhole D → (p : ℕ) (qualified : Bool) (of : Object) (args : List Supplied) → AreSupplied args → IsFounded (called D p qualified of args)
called_founded D are p qualified of args h = called_by D are qualified of args h (value_part D p)

-- ---- the library

wants_founded : (D : Declarations) → AreWhole D → (f : LibCall) (i : ℕ) (e : Expr) → IsFounded (known e) → IsFounded (wanted D (argument f i) e)
wants_founded D are f i e h = wanted_founded D are (argument f i) (argument_named f i) e h

range_founded : (ty : Ty) (e : Expr) → IsFounded (known e) → IsFounded (in_range ty e)
range_founded ty e h = either (fails ty e) (flaws.unknown (breaks 25)) (known e) (rule_caused 25 refl) h

by_wanted_founded : (D : Declarations) → AreWhole D → (f : LibCall) (i : ℕ) (e : Expr) (w : Wanted) → IsFounded (known e) → IsFounded (by_wanted D (argument f i) e w)
by_wanted_founded D are f i e wants.Dimension h = either (is_dimension e) (wanted D (argument f i) e) (flaws.unknown (breaks 3)) (wants_founded D are f i e h) (rule_caused 3 refl)
by_wanted_founded D are f i e (wants.Converted t) h = over_known (in_range (ty_of t)) (wanted D (argument f i) e) (wants_founded D are f i e h) (range_founded (ty_of t))
by_wanted_founded D are f i e _ h = wants_founded D are f i e h

library_argument_founded : (D : Declarations) → AreWhole D → (f : LibCall) (i : ℕ) (parenthesised : Bool) (e : Expr) → IsFounded (known e) → IsFounded (library_argument D f i parenthesised e)
library_argument_founded D are f i parenthesised e h =
    either (parenthesised && is_array_type (type_at e)) (flaws.unknown (breaks 21)) (by_wanted D (argument f i) e (argument_wanted f i)) (rule_caused 21 refl)
    (by_wanted_founded D are f i e (argument_wanted f i) h)

library_value_founded : (D : Declarations) → AreWhole D → (f : LibCall) (i : ℕ) (parenthesised : Bool) (x : Value) → HasFoundedValue x → IsFounded (library_value D f i parenthesised x)
library_value_founded D are f i parenthesised left_out h = rule_caused 18 refl
library_value_founded D are f i parenthesised (given t) h = over_known (library_argument D f i parenthesised) t h (library_argument_founded D are f i parenthesised)

library_arguments_founded : (D : Declarations) → AreWhole D → (f : LibCall) (i : ℕ) (args : List Supplied) → AreSupplied args → AreFounded (library_arguments D f i args)
library_arguments_founded D are f i [] h = tt
library_arguments_founded D are f i (a ∷ rest) h = (library_value_founded D are f i a.parenthesised a.value h.0, library_arguments_founded D are f (i + 1) rest h.1)

result_founded : (o : Option SimpleType) → is_known_type (result_or_nothing o) ≡ true
result_founded None = refl
result_founded (Some t) = simple_known t

fit_founded : (D : Declarations) → AreWhole D → (f : LibCall) (args : List Supplied) → AreSupplied args → IsFounded (fit_call D f args)
fit_founded D are f args h = over_all (call_over_exprs f) (library_arguments D f 0 args) (library_arguments_founded D are f 0 args h) (λ es. result_founded (result_type f (first_type es)))

unfit_founded : (D : Declarations) → AreWhole D → (f : LibCall) (args : List Supplied) → AreSupplied args → IsFounded (library_call_of D f args)
unfit_founded D are f args h = by (is_unfit f args) refl
  where
    wrong : (c : Bool) → (c || list_any is_slack args) ≡ true → has_cause (slack_after (breaks_if 18 c) args) ≡ true
    wrong true k = rule_with_slack 18 args refl
    wrong false k = some_slack (breaks_if 18 false) args h k

    by : (b : Bool) → is_unfit f args ≡ b → IsFounded (cond b (unfit_call f args) (fit_call D f args))
    by true e = wrong (not (has_count f (length args))) e
    by false e = fit_founded D are f args h

pub library_founded : (D : Declarations) → AreWhole D → (f : LibCall) (args : List Supplied) → AreSupplied args → IsFounded (library_called D f args)
library_founded D are f args h = either (gives_no_value f) (flaws.unknown (with_slack (breaks 18) args)) (library_call_of D f args) (rule_with_slack 18 args refl) (unfit_founded D are f args h)

-- ---- elements

index_founded : (D : Declarations) → AreWhole D → (x : Value) → HasFoundedValue x → IsFounded (index_value D x)
index_founded D are left_out h = rule_caused 18 refl
index_founded D are (given t) h = over_known (wanted D index) t h (λ e k. wanted_founded D are index (λ s. converts_named s long) e k)

indexes_founded : (D : Declarations) → AreWhole D → (args : List Supplied) → AreSupplied args → AreFounded (map (index_of D) args)
indexes_founded D are [] h = tt
indexes_founded D are (a ∷ rest) h = (
  either (is_worded a) (flaws.unknown (together (breaks 18) (value_flaw a.value))) (index_value D a.value) (left_caused (breaks 18) (value_flaw a.value) (rule_caused 18 refl)) (index_founded D are a.value h.0),
  indexes_founded D are rest h.1,
)

pub element_founded : (D : Declarations) → AreWhole D → (e : Expr) (args : List Supplied) → is_known_type (element_type (type_at e)) ≡ true → AreSupplied args → IsFounded (element_of D e args)
element_founded D are e args h k = over_all (element_at e) (map (index_of D) args) (indexes_founded D are args k) (λ es. h)

-- ---- Err.Raise and Err.Clear

raised_founded : (D : Declarations) → AreWhole D → (e : Expr) → IsFounded (known e) → IsFounded (raised D e)
raised_founded D are e h =
    over_known (λ (x : Expr). known (typed nothing (err_raise x))) (wanted D error_number e) (wanted_founded D are error_number (λ s. converts_named s long) e h) (λ x k. refl)

raised_value_founded : (D : Declarations) → AreWhole D → (x : Value) → HasFoundedValue x → IsFounded (raised_value D x)
raised_value_founded D are left_out h = rule_caused 19 refl
raised_value_founded D are (given t) h = over_known (raised D) t h (raised_founded D are)

raise_founded : (D : Declarations) → AreWhole D → (args : List Supplied) → AreSupplied args → IsFounded (raise_of D args)
raise_founded D are [] h = rule_caused 19 refl
raise_founded D are (a ∷ []) h =
    either (is_worded a) (flaws.unknown (together (breaks 18) (value_flaw a.value))) (raised_value D a.value) (left_caused (breaks 18) (value_flaw a.value) (rule_caused 18 refl)) (raised_value_founded D are a.value h.0)
raise_founded D are (a ∷ c ∷ rest) h = rule_with_slack 19 (a ∷ c ∷ rest) refl

clear_founded : (args : List Supplied) → IsFounded (clear_of args)
clear_founded [] = refl
clear_founded (a ∷ rest) = rule_with_slack 19 (a ∷ rest) refl

pub err_founded : (D : Declarations) → AreWhole D → (m : ErrMember) (args : List Supplied) → AreSupplied args → IsFounded (err_statement D m args)
err_founded D are err_members.Raise args h = raise_founded D are args h
err_founded D are err_members.Clear args h = clear_founded args
