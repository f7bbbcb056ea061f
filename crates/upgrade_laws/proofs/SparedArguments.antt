-- What arguments, calls and elements break is none of the rules on properties.
use Rattle.std.proofs.Common.{ℕ, Bool, true, false, cond, List, [], ◌∷◌, ◌++◌, map, length, Option, Some, None, refl}
use Rattle.std.specs.Prelude.{◌+◌, ◌&&◌, ◌||◌, not, drop, slice_get}
use Rattle.vb_tree.specs.BoundTree.{Ty, nothing, long}
use Rattle.vb_tree.specs.declared.bound.LibCall.{LibCall}
use Rattle.vb_tree.specs.declared.declared.VarId.{VarId}
use Rattle.bound_tree.specs.declared.body.Mention.TheVariants as mention
use Rattle.bound_tree.specs.Tree.{Variable, Declarations, Expr, typed, Object, call, err_raise}
use Rattle.bound_facts.specs.Node.{type_at, is_array_type}
use Rattle.typing_rows.specs.declared.conversions.Conversion.{Conversion}
use Rattle.typing_rows.specs.declared.conversions.Conversion.TheVariants.{Stands, To, Breaks}
use Rattle.typing_rows.specs.declared.conversions.Conversion.TheVariants as conversions
use Rattle.typing_rows.specs.declared.library.Wanted.{Wanted}
use Rattle.typing_rows.specs.declared.library.Wanted.TheVariants as wants
use Rattle.typing_rows.specs.Conversions.{converts, index, error_number, is_without_type}
use Rattle.typing_rows.specs.Library.{has_count, argument, argument_wanted}
use Rattle.typing_rows.specs.Types.{ty_of}
use Rattle.expression_words.specs.declared.lookups.ErrMember.{ErrMember}
use Rattle.expression_words.specs.declared.lookups.ErrMember.TheVariants as err_members
use Rattle.expression_words.specs.declared.typed.Flaw.{Flaw}
use Rattle.expression_words.specs.Flaws as flaws
use Rattle.expression_words.specs.Flaws.{Typed, known, no_flaw, breaks, breaks_if, lacks, together}
use Rattle.expression_words.specs.Converting.{fails, id, preset_at, preset_of, wanted}
use Rattle.expression_words.specs.Members.{value_part, result_in, params_in}
use Rattle.expression_words.specs.Passing.{Value, left_out, given, Supplied, is_left_out, value_flaw, is_worded, slack, slack_after, with_slack, Slot, filled, flawed, slot_flaw, all_filled, slot_flaws_after, passed_in, slot_by_value, is_place, is_reference, pass_value, array_slot, pass_array, place_slot, pass_reference, pass_typed, preset_slot_of, preset_slot, value_slot, slot, param_at, given_slots, slots, call_over, call_with, called_part, called}
use Rattle.expression_words.specs.LibraryCalls.{is_dimension, in_range, by_wanted, library_argument, library_value, library_arguments, call_over_exprs, is_unfit, unfit_call, fit_call, library_call_of, gives_no_value, library_called}
use Rattle.expression_words.specs.Elements.{index_value, index_of, element_at, element_of}
use Rattle.expression_words.specs.ErrStatements.{raised, raised_value, raise_of, clear_of, err_statement}
use Rattle.upgrade_laws.proofs.SparedRules.{SparesShape, none_spares, rule_spares, both_spare, IsSpared, flaw_spared, either, over_known, over_all, AreSpared, IsOther, converts_other, argument_other, wanted_spared}

-- ---- arguments

abbrev pub HasSparedValue : Value → Type 0
HasSparedValue left_out = Unit {0}
HasSparedValue (given t) = IsSpared t

abbrev pub AreSupplied : List Supplied → Type 0
AreSupplied [] = Unit {0}
AreSupplied (a ∷ rest) = HasSparedValue a.value × AreSupplied rest

pub given_spares : (x : Value) → HasSparedValue x → SparesShape (value_flaw x).rules
given_spares left_out h = none_spares
given_spares (given t) h = flaw_spared t h

pub if_spares : (n : ℕ) (test : Bool) → SparesShape (breaks n).rules → SparesShape (breaks_if n test).rules
if_spares n true h = h
if_spares n false h = none_spares

-- a rule that an argument breaks as it stands
abbrev WordedSpares : Supplied → Type 0
WordedSpares a = SparesShape (together (breaks 18) (value_flaw a.value)).rules

worded_spares : (a : Supplied) → HasSparedValue a.value → WordedSpares a
worded_spares a h = both_spare (breaks 18).rules (value_flaw a.value).rules (rule_spares 18 refl) (given_spares a.value h)

slack_spares : (a : Supplied) → HasSparedValue a.value → SparesShape (slack a).rules
slack_spares a h =
    both_spare (breaks_if 18 (is_worded a || is_left_out a.value)).rules (value_flaw a.value).rules
    (if_spares 18 (is_worded a || is_left_out a.value) (rule_spares 18 refl)) (given_spares a.value h)

pub slack_kept : (f : Flaw) (args : List Supplied) → SparesShape f.rules → AreSupplied args → SparesShape (slack_after f args).rules
slack_kept f [] h k = h
slack_kept f (a ∷ rest) h k = slack_kept (together f (slack a)) rest (both_spare f.rules (slack a).rules h (slack_spares a k.0)) k.1

pub rule_with_slack : (n : ℕ) (args : List Supplied) → SparesShape (breaks n).rules → AreSupplied args → SparesShape (with_slack (breaks n) args).rules
rule_with_slack n args h k = slack_kept (breaks n) args h k

-- ---- what parameters are given

abbrev IsSlot : Slot → Type 0
IsSlot (filled a) = Unit {0}
IsSlot (flawed f) = SparesShape f.rules

abbrev AreSlots : List Slot → Type 0
AreSlots [] = Unit {0}
AreSlots (s ∷ rest) = IsSlot s × AreSlots rest

slots_append : (xs ys : List Slot) → AreSlots xs → AreSlots ys → AreSlots (xs ++ ys)
slots_append [] ys h k = k
slots_append (x ∷ xs) ys h k = (h.0, slots_append xs ys h.1 k)

either_slot : (test : Bool) (s t : Slot) → IsSlot s → IsSlot t → IsSlot (cond test s t)
either_slot true s t h k = h
either_slot false s t h k = k

by_value_slot : (t : Typed) → IsSpared t → IsSlot (slot_by_value t)
by_value_slot (known e) h = tt
by_value_slot (flaws.unknown f) h = h

value_passed : (D : Declarations) (ty : Ty) (e : Expr) → IsSlot (pass_value D ty e)
value_passed D ty e = by_value_slot (wanted D (λ s. converts s ty) e) (wanted_spared D (λ s. converts s ty) (λ s. converts_other s ty) e)

array_passed : (e : Expr) (c : Conversion) → IsOther c → IsSlot (array_slot e c)
array_passed e Stands n = tt
array_passed e (To t) n = rule_spares 21 refl
array_passed e conversions.ByDefault n = rule_spares 21 refl
array_passed e (Breaks rule) n = rule_spares rule n

place_passed : (D : Declarations) (ty : Ty) (e : Expr) (c : Conversion) → IsOther c → IsSlot (place_slot D ty e c)
place_passed D ty e Stands n = tt
place_passed D ty e (To t) n = tt
place_passed D ty e conversions.ByDefault n = value_passed D ty e
place_passed D ty e (Breaks rule) n = rule_spares rule n

reference_passed : (D : Declarations) (parenthesised : Bool) (ty : Ty) (e : Expr) → IsSlot (pass_reference D parenthesised ty e)
reference_passed D parenthesised ty e =
    let c = converts (type_at e) ty in
    let n = converts_other (type_at e) ty in
    either_slot (is_array_type ty) (pass_array parenthesised ty e) (cond (not parenthesised && is_place e) (place_slot D ty e c) (pass_value D ty e))
    (either_slot parenthesised (flawed (breaks 21)) (array_slot e c) (rule_spares 21 refl) (array_passed e c n))
    (either_slot (not parenthesised && is_place e) (place_slot D ty e c) (pass_value D ty e) (place_passed D ty e c n) (value_passed D ty e))

typed_passed : (D : Declarations) (v : Variable) (parenthesised : Bool) (t : Typed) → IsSpared t → IsSlot (pass_typed D v parenthesised t)
typed_passed D v parenthesised (known e) h =
    either_slot (is_reference v.owner) (pass_reference D parenthesised v.ty e) (pass_value D v.ty e) (reference_passed D parenthesised v.ty e)
    (value_passed D v.ty e)
typed_passed D v parenthesised (flaws.unknown f) h = h

preset_passed : (o : Option Expr) → IsSlot (preset_slot_of o)
preset_passed None = rule_spares 18 refl
preset_passed (Some e) = tt

supplied_passed : (D : Declarations) (v : Variable) (parenthesised : Bool) (x : Value) → HasSparedValue x → IsSlot (value_slot D v parenthesised x)
supplied_passed D v parenthesised left_out h = preset_passed (preset_of (Some v))
supplied_passed D v parenthesised (given t) h = typed_passed D v parenthesised t h

slot_spared : (D : Declarations) (o : Option Variable) (a : Supplied) → HasSparedValue a.value → IsSlot (slot D o a)
slot_spared D None a h = worded_spares a h
slot_spared D (Some v) a h =
    either_slot (is_worded a) (flawed (together (breaks 18) (value_flaw a.value))) (value_slot D v a.parenthesised a.value) (worded_spares a h)
    (supplied_passed D v a.parenthesised a.value h)

given_spared : (D : Declarations) (params : List VarId) (i : ℕ) (args : List Supplied) → AreSupplied args → AreSlots (given_slots D params i args)
given_spared D params i [] h = tt
given_spared D params i (a ∷ rest) h = (slot_spared D (param_at D (slice_get params i)) a h.0, given_spared D params (i + 1) rest h.1)

presets_spared : (D : Declarations) (params : List VarId) → AreSlots (map (preset_slot D) params)
presets_spared D [] = tt
presets_spared D (v ∷ params) = (preset_passed (preset_at D v), presets_spared D params)

slots_spared : (D : Declarations) (params : List VarId) (args : List Supplied) → AreSupplied args → AreSlots (slots D params args)
slots_spared D params args h =
    slots_append (given_slots D params 0 args) (map (preset_slot D) (drop (length args) params)) (given_spared D params 0 args h)
    (presets_spared D (drop (length args) params))

slot_spares : (s : Slot) → IsSlot s → SparesShape (slot_flaw s).rules
slot_spares (filled a) h = none_spares
slot_spares (flawed f) h = h

after_slots : (f : Flaw) (ss : List Slot) → SparesShape f.rules → AreSlots ss → SparesShape (slot_flaws_after f ss).rules
after_slots f [] h k = h
after_slots f (s ∷ ss) h k = after_slots (together f (slot_flaw s)) ss (both_spare f.rules (slot_flaw s).rules h (slot_spares s k.0)) k.1

-- ---- calls

over_slots : (p : ℕ) (qualified : Bool) (of : Object) (ty : Ty) (ss : List Slot) → AreSlots ss → IsSpared (call_over p qualified of ty ss)
over_slots p qualified of ty ss k =
    either (all_filled ss) (known (typed ty (call (id p) qualified of (passed_in ss)))) (flaws.unknown (slot_flaws_after no_flaw ss)) tt
    (after_slots no_flaw ss none_spares k)

called_by : (D : Declarations) (qualified : Bool) (of : Object) (args : List Supplied) → AreSupplied args → (o : Option ℕ)
    → IsSpared (called_part D qualified of args o)
called_by D qualified of args h None = rule_with_slack 3 args (rule_spares 3 refl) h
called_by D qualified of args h (Some p) =
    let result = result_in (slice_get D.procs p) in
    let params = params_in (slice_get D.procs p) in
    either (is_without_type result) (flaws.unknown (with_slack (lacks (mention.Proc (id p))) args)) (call_with D p qualified of result params args)
    (slack_kept (lacks (mention.Proc (id p))) args none_spares h) (over_slots p qualified of result (slots D params args) (slots_spared D params args h))

pub called_spared : (D : Declarations) (p : ℕ) (qualified : Bool) (of : Object) (args : List Supplied) → AreSupplied args
    → IsSpared (called D p qualified of args)
called_spared D p qualified of args h = called_by D qualified of args h (value_part D p)

-- ---- the library

wants_spared : (D : Declarations) (f : LibCall) (i : ℕ) (e : Expr) → IsSpared (wanted D (argument f i) e)
wants_spared D f i e = wanted_spared D (argument f i) (argument_other f i) e

range_spared : (ty : Ty) (e : Expr) → IsSpared (in_range ty e)
range_spared ty e = either (fails ty e) (flaws.unknown (breaks 25)) (known e) (rule_spares 25 refl) tt

by_wanted_spared : (D : Declarations) (f : LibCall) (i : ℕ) (e : Expr) (w : Wanted) → IsSpared (by_wanted D (argument f i) e w)
by_wanted_spared D f i e wants.Dimension =
    either (is_dimension e) (wanted D (argument f i) e) (flaws.unknown (breaks 3)) (wants_spared D f i e) (rule_spares 3 refl)
by_wanted_spared D f i e (wants.Converted t) =
    over_known (in_range (ty_of t)) (wanted D (argument f i) e) (wants_spared D f i e) (range_spared (ty_of t))
by_wanted_spared D f i e _ = wants_spared D f i e

library_argument_spared : (D : Declarations) (f : LibCall) (i : ℕ) (parenthesised : Bool) (e : Expr) → IsSpared (library_argument D f i parenthesised e)
library_argument_spared D f i parenthesised e =
    either (parenthesised && is_array_type (type_at e)) (flaws.unknown (breaks 21)) (by_wanted D (argument f i) e (argument_wanted f i)) (rule_spares 21 refl)
    (by_wanted_spared D f i e (argument_wanted f i))

library_value_spared : (D : Declarations) (f : LibCall) (i : ℕ) (parenthesised : Bool) (x : Value) → HasSparedValue x
    → IsSpared (library_value D f i parenthesised x)
library_value_spared D f i parenthesised left_out h = rule_spares 18 refl
library_value_spared D f i parenthesised (given t) h =
    over_known (library_argument D f i parenthesised) t h (library_argument_spared D f i parenthesised)

library_arguments_spared : (D : Declarations) (f : LibCall) (i : ℕ) (args : List Supplied) → AreSupplied args → AreSpared (library_arguments D f i args)
library_arguments_spared D f i [] h = tt
library_arguments_spared D f i (a ∷ rest) h =
    (library_value_spared D f i a.parenthesised a.value h.0, library_arguments_spared D f (i + 1) rest h.1)

fit_spared : (D : Declarations) (f : LibCall) (args : List Supplied) → AreSupplied args → IsSpared (fit_call D f args)
fit_spared D f args h = over_all (call_over_exprs f) (library_arguments D f 0 args) (library_arguments_spared D f 0 args h) (λ es. tt)

call_spared : (D : Declarations) (f : LibCall) (args : List Supplied) → AreSupplied args → IsSpared (library_call_of D f args)
call_spared D f args h =
    either (is_unfit f args) (unfit_call f args) (fit_call D f args)
    (slack_kept (breaks_if 18 (not (has_count f (length args)))) args (if_spares 18 (not (has_count f (length args))) (rule_spares 18 refl)) h)
    (fit_spared D f args h)

pub library_spared : (D : Declarations) (f : LibCall) (args : List Supplied) → AreSupplied args → IsSpared (library_called D f args)
library_spared D f args h =
    either (gives_no_value f) (flaws.unknown (with_slack (breaks 18) args)) (library_call_of D f args) (rule_with_slack 18 args (rule_spares 18 refl) h)
    (call_spared D f args h)

-- ---- elements

index_spared : (D : Declarations) (x : Value) → HasSparedValue x → IsSpared (index_value D x)
index_spared D left_out h = rule_spares 18 refl
index_spared D (given t) h = over_known (wanted D index) t h (wanted_spared D index (λ s. converts_other s long))

indexes_spared : (D : Declarations) (args : List Supplied) → AreSupplied args → AreSpared (map (index_of D) args)
indexes_spared D [] h = tt
indexes_spared D (a ∷ rest) h = (
  either (is_worded a) (flaws.unknown (together (breaks 18) (value_flaw a.value))) (index_value D a.value) (worded_spares a h.0) (index_spared D a.value h.0),
  indexes_spared D rest h.1,
)

pub element_spared : (D : Declarations) (e : Expr) (args : List Supplied) → AreSupplied args → IsSpared (element_of D e args)
element_spared D e args k = over_all (element_at e) (map (index_of D) args) (indexes_spared D args k) (λ es. tt)

-- ---- Err.Raise and Err.Clear

raised_spared : (D : Declarations) (e : Expr) → IsSpared (raised D e)
raised_spared D e =
    over_known (λ (x : Expr). known (typed nothing (err_raise x))) (wanted D error_number e)
    (wanted_spared D error_number (λ s. converts_other s long) e) (λ x. tt)

raised_value_spared : (D : Declarations) (x : Value) → HasSparedValue x → IsSpared (raised_value D x)
raised_value_spared D left_out h = rule_spares 19 refl
raised_value_spared D (given t) h = over_known (raised D) t h (raised_spared D)

raise_spared : (D : Declarations) (args : List Supplied) → AreSupplied args → IsSpared (raise_of D args)
raise_spared D [] h = rule_spares 19 refl
raise_spared D (a ∷ []) h =
    either (is_worded a) (flaws.unknown (together (breaks 18) (value_flaw a.value))) (raised_value D a.value) (worded_spares a h.0)
    (raised_value_spared D a.value h.0)
raise_spared D (a ∷ c ∷ rest) h = rule_with_slack 19 (a ∷ c ∷ rest) (rule_spares 19 refl) h

clear_spared : (args : List Supplied) → AreSupplied args → IsSpared (clear_of args)
clear_spared [] h = tt
clear_spared (a ∷ rest) h = rule_with_slack 19 (a ∷ rest) (rule_spares 19 refl) h

pub err_spared : (D : Declarations) (m : ErrMember) (args : List Supplied) → AreSupplied args → IsSpared (err_statement D m args)
err_spared D err_members.Raise args h = raise_spared D args h
err_spared D err_members.Clear args h = clear_spared args h
