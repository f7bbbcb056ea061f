-- What statements do with names, members and argument lists: they give them a value, enter them, count in them, or resize them.
use Rattle.std.specs.Prelude.{ℕ, zero, suc, Bool, true, false, cond, ◌&&◌, Option, Some, None, List, [], slice_get}
use Rattle.vb_tree.specs.BoundTree.{Ty, class, nothing}
use Rattle.vb_tree.specs.BoundTree as types
use Rattle.vb_tree.specs.declared.bound.LibCall.{LibCall}
use Rattle.vb_tree.specs.declared.declared.ProcKind.TheVariants as kind
use Rattle.bound_tree.specs.declared.body.Mention.TheVariants as mention
use Rattle.bound_tree.specs.Tree.{Declarations, Expr, typed, Term, variable, call, library, err_number, Object, of_object, no_passed, no_exprs}
use Rattle.bound_facts.specs.Node.{type_at, is_object_type}
use Rattle.typing_rows.specs.Conversions.{is_without_type, is_counter}
use Rattle.typing_rows.specs.Library.{result_type}
use Rattle.expression_words.specs.declared.typed.Flaw.{Flaw}
use Rattle.expression_words.specs.Flaws.{Typed, known, unknown, breaks, lacks, on_known}
use Rattle.expression_words.specs.Members.{is_a_property, value_part, store_part, result_in, result_of, taken_by, params_of, without_last, count_classes}
use Rattle.expression_words.specs.Converting.{id, default_at}
use Rattle.expression_words.specs.Passing.{Supplied, with_slack, is_place, call_with, called}
use Rattle.expression_words.specs.LibraryCalls.{gives_no_value, library_call_of, result_or_nothing}
use Rattle.expression_words.specs.ErrStatements.{err_statement}
use Rattle.expression_words.specs.Meanings.{Meaning, value, procedure, library_word, of_module, of_enum, err, err_member, args_in}

abbrev pub is_err_number_in : Term → Bool
is_err_number_in err_number = true
is_err_number_in _ = false

abbrev pub is_err_number : Expr → Bool
is_err_number (typed ty t) = is_err_number_in t

-- the rule that is broken by what can't be used in some way, of which Err.Number has its own
abbrev pub rule_for : ℕ → Expr → ℕ
rule_for rule e = cond (is_err_number e) 19 rule

-- what is broken by a procedure or a part of a property that can't be used in some way, unless it has no type
abbrev pub unfit_flaw : ℕ → (rule : ℕ) → Ty → Flaw
unfit_flaw p rule ty = cond (is_without_type ty) (lacks (mention.Proc (id p))) (breaks rule)

abbrev pub unfit : ℕ → List Supplied → (rule : ℕ) → Ty → Typed
unfit p args rule ty = unknown (with_slack (unfit_flaw p rule ty) args)

-- the type of the value of a procedure or of a property
abbrev pub read_type : Declarations → ℕ → Ty
read_type D p = result_of D (value_part D p)

-- ---- what is given a value

-- a place as it stands; all else can't be given a value
abbrev pub stored : Expr → Typed
stored e = cond (is_place e) (known e) (unknown (breaks (rule_for 21 e)))

-- a call of the part of a property that is given a value: without that value, and with the value's type
abbrev pub stored_call : Declarations → (qualified : Bool) → Object → List Supplied → ℕ → Typed
stored_call D qualified of args p = call_with D p qualified of (taken_by D p) (without_last (params_of D p)) args

abbrev pub store_call : Declarations → (qualified : Bool) → Object → List Supplied → ℕ → Typed
store_call D qualified of args p =
    cond (is_without_type (result_in (slice_get D.procs p))) (unknown (with_slack (lacks (mention.Proc (id p))) args)) (stored_call D qualified of args p)

-- the same of a procedure that may have no such part
abbrev pub store_by_part : Declarations → ℕ → (qualified : Bool) → Object → List Supplied → Option ℕ → Typed
store_by_part D p qualified of args None = unfit p args 21 (read_type D p)
store_by_part D p qualified of args (Some q) = store_call D qualified of args q

-- the type of what takes a value: of the value parameter, or of what is read where there is none
abbrev pub target_type : Declarations → ℕ → Option ℕ → Ty
target_type D p None = read_type D p
target_type D p (Some q) = taken_by D q

abbrev pub takes_object : Declarations → ℕ → Bool
takes_object D p = is_object_type (target_type D p (store_part D kind.Let p))

-- An assignment to a property goes to its Let. Where the property or a result is an object, it goes to the default member of that,
-- for which `next` stands.
abbrev pub let_procedure : (Expr → Typed) → Declarations → ℕ → (qualified : Bool) → Object → List Supplied → Typed
let_procedure next D p qualified of args =
    cond (takes_object D p) (on_known next (called D p qualified of args)) (store_by_part D p qualified of args (store_part D kind.Let p))

abbrev pub let_behind : (Expr → Typed) → Declarations → Expr → Option ℕ → Typed
let_behind next D e None = unknown (breaks 6)
let_behind next D e (Some p) = let_procedure next D p false (of_object e) []

-- an expression as the target of an assignment: an object gives way to its default member, along at most so many of them
abbrev pub let_known : Declarations → ℕ → Expr → Typed
let_known D zero e = cond (is_object_type (type_at e)) (unknown (breaks 6)) (stored e)
let_known D (suc n) e = cond (is_object_type (type_at e)) (let_behind (let_known D n) D e (default_at D (type_at e))) (stored e)

-- the target of an assignment
abbrev pub let_target : Declarations → Meaning → Typed
let_target D (value t) = on_known (let_known D (count_classes D)) t
let_target D (procedure p qualified of args) = let_procedure (let_known D (count_classes D)) D p qualified of (args_in args)
let_target D (library_word f args) = unknown (with_slack (breaks 21) (args_in args))
let_target D (of_module file) = unknown (breaks 3)
let_target D (of_enum e) = unknown (breaks 3)
let_target D err = unknown (breaks 19)
let_target D (err_member m args) = unknown (with_slack (breaks 19) (args_in args))

-- the target of a Set
abbrev pub set_target : Declarations → Meaning → Typed
set_target D (value t) = on_known stored t
set_target D (procedure p qualified of args) = store_by_part D p qualified of (args_in args) (store_part D kind.Set p)
set_target D (library_word f args) = unknown (with_slack (breaks 21) (args_in args))
set_target D (of_module file) = unknown (breaks 3)
set_target D (of_enum e) = unknown (breaks 3)
set_target D err = unknown (breaks 19)
set_target D (err_member m args) = unknown (with_slack (breaks 19) (args_in args))

-- ---- counters

abbrev pub is_variable_in : Term → Bool
is_variable_in (variable v qualified) = true
is_variable_in _ = false

abbrev pub is_variable : Expr → Bool
is_variable (typed ty t) = is_variable_in t

abbrev pub counted : Expr → Typed
counted e = cond (is_variable e && is_counter (type_at e)) (known e) (unknown (breaks (rule_for 22 e)))

-- what a For counts in: a variable of type Integer or Long
abbrev pub counter : Declarations → Meaning → Typed
counter D (value t) = on_known counted t
counter D (procedure p qualified of args) = unfit p (args_in args) 22 (read_type D p)
counter D (library_word f args) = unknown (with_slack (breaks 22) (args_in args))
counter D (of_module file) = unknown (breaks 3)
counter D (of_enum e) = unknown (breaks 3)
counter D err = unknown (breaks 19)
counter D (err_member m args) = unknown (with_slack (breaks 19) (args_in args))

-- ---- arrays that are made anew or erased

abbrev pub resized_procedure : ℕ → (qualified : Bool) → Object → Ty → Typed
resized_procedure p qualified of ty =
    cond (is_without_type ty) (unknown (lacks (mention.Proc (id p)))) (known (typed ty (call (id p) qualified of no_passed)))

abbrev pub resized_library : LibCall → Typed
resized_library f = known (typed (result_or_nothing (result_type f types.unknown)) (library f no_exprs))

-- what a ReDim or an Erase names, whatever it is: a procedure or a call of the library stands as a call without arguments
abbrev pub resized : Declarations → Meaning → Typed
resized D (value t) = t
resized D (procedure p qualified of args) = resized_procedure p qualified of (read_type D p)
resized D (library_word f args) = resized_library f
resized D (of_module file) = unknown (breaks 3)
resized D (of_enum e) = unknown (breaks 3)
resized D err = unknown (breaks 19)
resized D (err_member m args) = unknown (with_slack (breaks 19) (args_in args))

-- ---- calls as statements

-- a Sub or a Function; a property is no statement
abbrev pub called_statement : Declarations → ℕ → (qualified : Bool) → Object → List Supplied → Typed
called_statement D p qualified of args =
    cond (is_a_property (slice_get D.procs p)) (unfit p args 3 (read_type D p)) (called D p qualified of args)

abbrev pub library_statement : Declarations → LibCall → List Supplied → Typed
library_statement D f args = cond (gives_no_value f) (library_call_of D f args) (unknown (with_slack (breaks 3) args))

abbrev pub no_statement : Expr → Typed
no_statement e = unknown (breaks (rule_for 3 e))

-- a call as a statement
abbrev pub statement : Declarations → Meaning → Typed
statement D (value t) = on_known no_statement t
statement D (procedure p qualified of args) = called_statement D p qualified of (args_in args)
statement D (library_word f args) = library_statement D f (args_in args)
statement D (of_module file) = unknown (breaks 3)
statement D (of_enum e) = unknown (breaks 3)
statement D err = unknown (breaks 19)
statement D (err_member m args) = err_statement D m (args_in args)
