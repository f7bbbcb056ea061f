-- Calls of the library with their arguments.
use Rattle.std.specs.Prelude.{ℕ, ◌+◌, Bool, true, false, cond, ◌||◌, ◌&&◌, not, Option, Some, None, is_some, List, [], ◌∷◌, length}
use Rattle.std.specs.List.{list_any}
use Rattle.vb_tree.specs.BoundTree.{Ty, unknown, nothing}
use Rattle.vb_tree.specs.declared.bound.LibCall.{LibCall}
use Rattle.vb_tree.specs.declared.bound.LibCall.TheVariants as lib
use Rattle.vb_tree.specs.declared.value.Value6.{Value6}
use Rattle.bound_tree.specs.Tree.{Declarations, Expr, typed, library, Exprs, no_exprs, next_expr}
use Rattle.bound_facts.specs.Folded.{folded}
use Rattle.bound_facts.specs.Node.{type_at, is_array_type}
use Rattle.typing_rows.specs.declared.conversions.Conversion.{Conversion}
use Rattle.typing_rows.specs.declared.library.Wanted.{Wanted}
use Rattle.typing_rows.specs.declared.library.Wanted.TheVariants as wants
use Rattle.typing_rows.specs.declared.simple_types.SimpleType.{SimpleType}
use Rattle.typing_rows.specs.Library.{has_count, argument, argument_wanted, dimension_of, result_type}
use Rattle.typing_rows.specs.Types.{ty_of}
use Rattle.expression_words.specs.Flaws as flaws
use Rattle.expression_words.specs.Flaws.{Typed, known, breaks, breaks_if, on_known, on_all}
use Rattle.expression_words.specs.Converting.{fails, wanted}
use Rattle.expression_words.specs.Passing.{Supplied, Value, left_out, given, is_worded, with_slack}

-- ---- arguments

abbrev pub is_dimension_of : Option Value6 → Bool
is_dimension_of None = false
is_dimension_of (Some x) = is_some (dimension_of x)

-- whether an expression is a constant that is 1 or 2
abbrev pub is_dimension : Expr → Bool
is_dimension e = is_dimension_of (folded e)

-- a constant that is converted by a call is within the range of the type
abbrev pub in_range : Ty → Expr → Typed
in_range ty e = cond (fails ty e) (flaws.unknown (breaks 25)) (known e)

-- what becomes of an argument where one is wanted
abbrev pub by_dimension : Declarations → (Ty → Conversion) → Expr → Typed
by_dimension D asks e = cond (is_dimension e) (wanted D asks e) (flaws.unknown (breaks 3))

abbrev pub by_wanted : Declarations → (Ty → Conversion) → Expr → Wanted → Typed
by_wanted D asks e wants.Dimension = by_dimension D asks e
by_wanted D asks e (wants.Converted t) = on_known (in_range (ty_of t)) (wanted D asks e)
by_wanted D asks e _ = wanted D asks e

-- an argument at a place, counted from 0
abbrev pub library_argument : Declarations → LibCall → (place : ℕ) → (parenthesised : Bool) → Expr → Typed
library_argument D f i parenthesised e =
    cond (parenthesised && is_array_type (type_at e)) (flaws.unknown (breaks 21)) (by_wanted D (argument f i) e (argument_wanted f i))

abbrev pub library_value : Declarations → LibCall → (place : ℕ) → (parenthesised : Bool) → Value → Typed
library_value D f i parenthesised left_out = flaws.unknown (breaks 18)
library_value D f i parenthesised (given t) = on_known (library_argument D f i parenthesised) t

-- the arguments from the one at a place on
abbrev pub library_arguments : Declarations → LibCall → (place : ℕ) → List Supplied → List Typed
library_arguments D f i [] = []
library_arguments D f i (a ∷ rest) = library_value D f i a.parenthesised a.value ∷ library_arguments D f (i + 1) rest

-- ---- calls

abbrev pub is_without_value : Value → Bool
is_without_value left_out = true
is_without_value (given (known e)) = false
is_without_value (given (flaws.unknown f)) = true

-- whether an argument leaves any call without a type
abbrev pub is_slack : Supplied → Bool
is_slack a = is_worded a || is_without_value a.value

abbrev pub first_type : Exprs → Ty
first_type no_exprs = unknown
first_type (next_expr e rest) = type_at e

abbrev pub result_or_nothing : Option SimpleType → Ty
result_or_nothing None = nothing
result_or_nothing (Some t) = ty_of t

abbrev pub call_over_exprs : LibCall → Exprs → Typed
call_over_exprs f es = known (typed (result_or_nothing (result_type f (first_type es))) (library f es))

-- a call with a wrong count of arguments, or with one that doesn't stand by itself
abbrev pub is_unfit : LibCall → List Supplied → Bool
is_unfit f args = not (has_count f (length args)) || list_any is_slack args

abbrev pub unfit_call : LibCall → List Supplied → Typed
unfit_call f args = flaws.unknown (with_slack (breaks_if 18 (not (has_count f (length args)))) args)

abbrev pub fit_call : Declarations → LibCall → List Supplied → Typed
fit_call D f args = on_all (call_over_exprs f) (library_arguments D f 0 args)

abbrev pub library_call_of : Declarations → LibCall → List Supplied → Typed
library_call_of D f args = cond (is_unfit f args) (unfit_call f args) (fit_call D f args)

abbrev pub gives_no_value : LibCall → Bool
gives_no_value lib.MsgBox = true
gives_no_value _ = false

-- a call in an expression, where MsgBox can't stand
abbrev pub library_called : Declarations → LibCall → List Supplied → Typed
library_called D f args = cond (gives_no_value f) (flaws.unknown (with_slack (breaks 18) args)) (library_call_of D f args)
