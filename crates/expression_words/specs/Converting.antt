-- How an expression goes to another type: conversions that are written out, and default members that objects give way to.
use Rattle.std.specs.Prelude.{ℕ, zero, suc, ◌<◌, Bool, true, false, cond, ◌||◌, ◌&&◌, Option, Some, None, List, [], ◌∷◌, map, slice_get, is_some}
use Rattle.std.specs.List.{list_all}
use Rattle.vb_tree.specs.BoundTree.{Ty, class, object, variant, nothing, unknown}
use Rattle.vb_tree.specs.declared.declared.ProcId.{ProcId}
use Rattle.vb_tree.specs.declared.declared.VarId.{VarId}
use Rattle.vb_tree.specs.declared.value.Value6.{Value6}
use Rattle.vb6_meaning.specs.Answers.{Answer, gives, raises, outside}
use Rattle.vb6_meaning.specs.Values.{coerce}
use Rattle.bound_tree.specs.declared.body.Mention.TheVariants as mention
use Rattle.bound_tree.specs.declared.expression.Origin.TheVariants.{Literal}
use Rattle.bound_tree.specs.Tree.{Variable, Procedure, Declarations, Expr, typed, Term, constant, call, convert, err_raise, err_clear, Object, no_object, of_object, Argument, by_value, Passed, no_passed, next_passed}
use Rattle.bound_facts.specs.Node.{type_at, is_object_type, is_variant}
use Rattle.typing_rows.specs.declared.conversions.Conversion.{Conversion}
use Rattle.typing_rows.specs.declared.conversions.Conversion.TheVariants.{Stands, To, ByDefault, Breaks}
use Rattle.typing_rows.specs.Types.{ty_of}
use Rattle.expression_words.specs.declared.typed.Flaw.{Flaw}
use Rattle.expression_words.specs.Flaws.{Typed, known, unknown, breaks, breaks_if, lacks, together, on_known}
use Rattle.expression_words.specs.Members.{value_part, result_in, params_in, count_classes, default_of}
use Rattle.typing_rows.specs.Conversions.{is_without_type}

-- ---- conversions that are written out

abbrev pub raises_number : Answer Value6 → Bool
raises_number (gives x) = false
raises_number (raises number) = true
raises_number outside = false

-- whether the conversion of a constant to a type raises
abbrev pub fails_in : Ty → Term → Bool
fails_in to (constant x origin) = raises_number (coerce x to)
fails_in to _ = false

abbrev pub fails : Ty → Expr → Bool
fails to (typed ty t) = fails_in to t

abbrev pub is_call_in : Term → Bool
is_call_in (call p qualified of args) = true
is_call_in (err_raise e) = true
is_call_in err_clear = true
is_call_in _ = false

abbrev pub is_nothing : Ty → Bool
is_nothing nothing = true
is_nothing _ = false

-- a call of a Sub, Err.Raise and Err.Clear give no value, not even Nothing
abbrev pub gives_none : Expr → Bool
gives_none (typed ty t) = is_nothing ty && is_call_in t

abbrev pub converted : Ty → Expr → Typed
converted to e = cond (gives_none e) (unknown (breaks 21)) (cond (fails to e) (unknown (breaks 25)) (known (typed to (convert to e))))

-- ---- calls without arguments

-- the value of a parameter that is left out; no Variant can be
abbrev pub preset_value : Ty → Option Value6 → Option Expr
preset_value ty None = None
preset_value ty (Some x) = cond (is_variant ty) None (Some (typed ty (constant x Literal)))

abbrev pub preset_of : Option Variable → Option Expr
preset_of None = None
preset_of (Some v) = preset_value v.ty v.preset

abbrev pub id : ℕ → ProcId
id p = record { 0 = p }

abbrev pub with_preset : Option Expr → Passed → Passed
with_preset None rest = rest
with_preset (Some e) rest = next_passed (by_value e) rest

abbrev pub preset_at : Declarations → VarId → Option Expr
preset_at D v = preset_of (slice_get D.vars v.0)

abbrev pub has_preset : Declarations → VarId → Bool
has_preset D v = is_some (preset_at D v)

-- arguments that are left out
abbrev pub presets : Declarations → List VarId → Passed
presets D [] = no_passed
presets D (v ∷ vs) = with_preset (preset_at D v) (presets D vs)

-- a call of a procedure without an argument list, of which the value part is given
abbrev pub bare_result : Declarations → ℕ → (qualified : Bool) → Object → Ty → List VarId → Typed
bare_result D p qualified of result params =
    cond (is_without_type result) (unknown (lacks (mention.Proc (id p))))
    (cond (list_all (has_preset D) params) (known (typed result (call (id p) qualified of (presets D params)))) (unknown (breaks 18)))

abbrev pub bare_value : Declarations → (qualified : Bool) → Object → Option ℕ → Typed
bare_value D qualified of None = unknown (breaks 3)
bare_value D qualified of (Some p) = bare_result D p qualified of (result_in (slice_get D.procs p)) (params_in (slice_get D.procs p))

-- the value of a procedure or a property that no argument list follows; a property without a Get can't be read
abbrev pub bare_call : Declarations → ℕ → (qualified : Bool) → Object → Typed
bare_call D p qualified of = bare_value D qualified of (value_part D p)

-- ---- default members

abbrev pub default_value : Declarations → Expr → Option ℕ → Typed
default_value D e None = unknown (breaks 6)
default_value D e (Some p) = bare_call D p false (of_object e)

-- a class may have a default member; Object has none that is known
abbrev pub default_at : Declarations → Ty → Option ℕ
default_at D (class c) = default_of D c
default_at D _ = None

-- the default member of an expression of a type that is an object
abbrev pub behind_default : Declarations → Ty → Expr → Typed
behind_default D ty e = default_value D e (default_at D ty)

-- what an expression gives that isn't an object, along at most so many default members
abbrev pub plain_in : Declarations → ℕ → Expr → Typed
plain_in D zero e = cond (is_object_type (type_at e)) (unknown (breaks 6)) (known e)
plain_in D (suc n) e = cond (is_object_type (type_at e)) (on_known (plain_in D n) (behind_default D (type_at e) e)) (known e)

-- an object gives way to its default member, that one's object to its own, and so on; a chain with more links than there are classes
-- comes back
abbrev pub plain : Declarations → Expr → Typed
plain D e = plain_in D (count_classes D) e

-- ---- a wanted type

-- the rule that is broken where there is no conversion is one that sets of rules can have
abbrev pub NamesRule : Conversion → Type 0
NamesRule Stands = Unit {0}
NamesRule (To t) = Unit {0}
NamesRule ByDefault = Unit {0}
NamesRule (Breaks rule) = rule < 32

-- what becomes of an expression that can't give way any more
abbrev pub finally : Expr → Conversion → Typed
finally e Stands = known e
finally e (To t) = converted (ty_of t) e
finally e ByDefault = unknown (breaks 6)
finally e (Breaks rule) = unknown (breaks rule)

abbrev pub by_conversion : Declarations → (Ty → Conversion) → Expr → Conversion → Typed
by_conversion D asks e Stands = known e
by_conversion D asks e (To t) = converted (ty_of t) e
by_conversion D asks e ByDefault = on_known (λ (x : Expr). finally x (asks (type_at x))) (plain D e)
by_conversion D asks e (Breaks rule) = unknown (breaks rule)

-- an expression where one is wanted, by what becomes of each type there
abbrev pub wanted : Declarations → (Ty → Conversion) → Expr → Typed
wanted D asks e = by_conversion D asks e (asks (type_at e))
