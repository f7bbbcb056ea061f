-- Calls with their arguments: what each parameter is given.
use Rattle.std.specs.Prelude.{ℕ, suc, ◌+◌, Bool, true, false, cond, ◌||◌, ◌&&◌, not, Option, Some, None, List, [], ◌∷◌, ◌++◌, map, length, drop, slice_get}
use Rattle.vb_tree.specs.BoundTree.{Ty, array}
use Rattle.vb_tree.specs.declared.declared.Owner.{Owner}
use Rattle.vb_tree.specs.declared.declared.Owner.TheVariants as owner
use Rattle.vb_tree.specs.declared.declared.VarId.{VarId}
use Rattle.bound_tree.specs.declared.body.Mention.TheVariants as mention
use Rattle.bound_tree.specs.declared.expression.Root.{Root}
use Rattle.bound_tree.specs.declared.expression.Root.TheVariants as root
use Rattle.bound_tree.specs.Tree.{Variable, Procedure, Declarations, Expr, typed, Term, variable, field, element, call, convert, with_object, Object, Argument, by_value, by_reference, Passed, no_passed, next_passed}
use Rattle.bound_facts.specs.Node.{type_at, is_object_type, is_array_type}
use Rattle.typing_rows.specs.declared.conversions.Conversion.{Conversion}
use Rattle.typing_rows.specs.declared.conversions.Conversion.TheVariants.{Stands, To, ByDefault, Breaks}
use Rattle.typing_rows.specs.Conversions.{converts, is_without_type}
use Rattle.typing_rows.specs.Types.{ty_of}
use Rattle.expression_words.specs.declared.typed.Flaw.{Flaw}
use Rattle.expression_words.specs.Flaws.{Typed, known, unknown, no_flaw, breaks, breaks_if, lacks, together, flaw_of}
use Rattle.expression_words.specs.Members.{value_part, result_in, params_in}
use Rattle.expression_words.specs.Converting.{id, wanted, preset_at, preset_of}

-- ---- arguments as they stand in the source

-- the value of an argument, or none where it is left out
pub data Value : Type 0 where
  left_out : Value
  given : Typed → Value

pub record Supplied : Type 0 where
  -- whether a name and `:=` stand before it
  pub named : Bool
  -- whether `ByVal` or `#` stands before it
  pub marked : Bool
  -- whether the whole of it stands in parentheses
  pub parenthesised : Bool
  pub value : Value

abbrev pub is_left_out : Value → Bool
is_left_out left_out = true
is_left_out (given t) = false

abbrev pub value_flaw : Value → Flaw
value_flaw left_out = no_flaw
value_flaw (given t) = flaw_of t

abbrev pub is_worded : Supplied → Bool
is_worded a = a.named || a.marked

-- what an argument breaks wherever it stands
abbrev pub slack : Supplied → Flaw
slack a = together (breaks_if 18 (is_worded a || is_left_out a.value)) (value_flaw a.value)

abbrev pub slack_after : Flaw → List Supplied → Flaw
slack_after f [] = f
slack_after f (a ∷ rest) = slack_after (together f (slack a)) rest

-- what an expression without a type breaks beside, with these arguments
abbrev pub with_slack : Flaw → List Supplied → Flaw
with_slack f args = slack_after f args

-- ---- slots: what a parameter is given

pub data Slot : Type 0 where
  filled : Argument → Slot
  flawed : Flaw → Slot

abbrev pub slot_flaw : Slot → Flaw
slot_flaw (filled a) = no_flaw
slot_flaw (flawed f) = f

abbrev pub is_filled : Slot → Bool
is_filled (filled a) = true
is_filled (flawed f) = false

abbrev pub all_filled : List Slot → Bool
all_filled [] = true
all_filled (s ∷ rest) = is_filled s && all_filled rest

abbrev pub slot_flaws_after : Flaw → List Slot → Flaw
slot_flaws_after f [] = f
slot_flaws_after f (s ∷ rest) = slot_flaws_after (together f (slot_flaw s)) rest

abbrev pub with_filled : Slot → Passed → Passed
with_filled (filled a) rest = next_passed a rest
with_filled (flawed f) rest = rest

abbrev pub passed_in : List Slot → Passed
passed_in [] = no_passed
passed_in (s ∷ rest) = with_filled s (passed_in rest)

abbrev pub slot_by_value : Typed → Slot
slot_by_value (known e) = filled (by_value e)
slot_by_value (unknown f) = flawed f

-- ---- what is given by reference

-- whether what a With keeps is a part of something that outlasts the call
abbrev pub is_kept : Root → Bool
is_kept (root.Variable v) = true
is_kept root.Object = true
is_kept root.Temporary = false

-- a place that outlasts the call: a variable, an element or a field, of a variable, of an object or of what a With keeps; no part of
-- what a procedure gave
abbrev mutual
  pub is_place : Expr → Bool
  is_place (typed ty t) = is_place_in t

  pub is_place_in : Term → Bool
  is_place_in (variable v qualified) = true
  is_place_in (field e k) = is_object_type (type_at e) || is_base e
  is_place_in (element e indexes) = is_place e
  is_place_in _ = false

  -- what a field of a user type stands in
  pub is_base : Expr → Bool
  is_base (typed ty t) = is_base_in t

  pub is_base_in : Term → Bool
  is_base_in (with_object r) = is_kept r
  is_base_in (variable v qualified) = true
  is_base_in (field e k) = is_object_type (type_at e) || is_base e
  is_base_in (element e indexes) = is_place e
  is_base_in _ = false

abbrev pub is_reference : Owner → Bool
is_reference (owner.Reference p) = true
is_reference _ = false

abbrev pub pass_value : Declarations → Ty → Expr → Slot
pass_value D ty e = slot_by_value (wanted D (λ s. converts s ty) e)

-- an array goes by reference whatever is written, where it outlasts the call
abbrev pub place_argument : Expr → Argument
place_argument e = cond (is_place e) (by_reference e) (by_value e)

-- and in parentheses it goes nowhere
abbrev pub array_slot : Expr → Conversion → Slot
array_slot e Stands = filled (place_argument e)
array_slot e (To t) = flawed (breaks 21)
array_slot e ByDefault = flawed (breaks 21)
array_slot e (Breaks rule) = flawed (breaks rule)

abbrev pub pass_array : (parenthesised : Bool) → Ty → Expr → Slot
pass_array parenthesised ty e = cond parenthesised (flawed (breaks 21)) (array_slot e (converts (type_at e) ty))

-- a variable, an element or a field where a reference of a type is wanted
abbrev pub place_slot : Declarations → Ty → Expr → Conversion → Slot
place_slot D ty e Stands = filled (by_reference e)
place_slot D ty e (To t) = filled (by_reference (typed (ty_of t) (convert (ty_of t) e)))
place_slot D ty e ByDefault = pass_value D ty e
place_slot D ty e (Breaks rule) = flawed (breaks rule)

abbrev pub pass_reference : Declarations → (parenthesised : Bool) → Ty → Expr → Slot
pass_reference D parenthesised ty e =
    cond (is_array_type ty) (pass_array parenthesised ty e)
    (cond (not parenthesised && is_place e) (place_slot D ty e (converts (type_at e) ty)) (pass_value D ty e))

abbrev pub pass_known : Declarations → Variable → (parenthesised : Bool) → Expr → Slot
pass_known D v parenthesised e = cond (is_reference v.owner) (pass_reference D parenthesised v.ty e) (pass_value D v.ty e)

abbrev pub pass_typed : Declarations → Variable → (parenthesised : Bool) → Typed → Slot
pass_typed D v parenthesised (known e) = pass_known D v parenthesised e
pass_typed D v parenthesised (unknown f) = flawed f

-- a parameter that is left out takes its preset, where it has one
abbrev pub preset_slot_of : Option Expr → Slot
preset_slot_of None = flawed (breaks 18)
preset_slot_of (Some e) = filled (by_value e)

abbrev pub preset_slot : Declarations → VarId → Slot
preset_slot D v = preset_slot_of (preset_at D v)

abbrev pub value_slot : Declarations → Variable → (parenthesised : Bool) → Value → Slot
value_slot D v parenthesised left_out = preset_slot_of (preset_of (Some v))
value_slot D v parenthesised (given t) = pass_typed D v parenthesised t

-- what an argument gives to a variable that is a parameter, and none behind the last
abbrev pub slot : Declarations → Option Variable → Supplied → Slot
slot D None a = flawed (together (breaks 18) (value_flaw a.value))
slot D (Some v) a = cond (is_worded a) (flawed (together (breaks 18) (value_flaw a.value))) (value_slot D v a.parenthesised a.value)

abbrev pub param_at : Declarations → Option VarId → Option Variable
param_at D None = None
param_at D (Some v) = slice_get D.vars v.0

-- the arguments from the one with a number on
abbrev pub given_slots : Declarations → List VarId → ℕ → List Supplied → List Slot
given_slots D params i [] = []
given_slots D params i (a ∷ rest) = slot D (param_at D (slice_get params i)) a ∷ given_slots D params (i + 1) rest

-- what all parameters are given; parameters behind the last argument are left out
abbrev pub slots : Declarations → List VarId → List Supplied → List Slot
slots D params args = given_slots D params 0 args ++ map (preset_slot D) (drop (length args) params)

-- ---- calls

abbrev pub call_over : ℕ → (qualified : Bool) → Object → Ty → List Slot → Typed
call_over p qualified of ty filling =
    cond (all_filled filling) (known (typed ty (call (id p) qualified of (passed_in filling)))) (unknown (slot_flaws_after no_flaw filling))

-- a call of a procedure by these parameters, with the type that it has there
abbrev pub call_with : Declarations → ℕ → (qualified : Bool) → Object → Ty → List VarId → List Supplied → Typed
call_with D p qualified of ty params args = call_over p qualified of ty (slots D params args)

-- the value of a procedure whose head leaves its result without a type has none
abbrev pub called_as : Declarations → ℕ → (qualified : Bool) → Object → Ty → List VarId → List Supplied → Typed
called_as D p qualified of result params args =
    cond (is_without_type result) (unknown (with_slack (lacks (mention.Proc (id p))) args)) (call_with D p qualified of result params args)

abbrev pub called_part : Declarations → (qualified : Bool) → Object → List Supplied → Option ℕ → Typed
called_part D qualified of args None = unknown (with_slack (breaks 3) args)
called_part D qualified of args (Some p) = called_as D p qualified of (result_in (slice_get D.procs p)) (params_in (slice_get D.procs p)) args

-- the value of a procedure or a property with arguments
abbrev pub called : Declarations → ℕ → (qualified : Bool) → Object → List Supplied → Typed
called D p qualified of args = called_part D qualified of args (value_part D p)
