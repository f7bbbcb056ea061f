-- Runs of small programs, worked out by hand: calls, parameters, user types and fixed strings.
use Rattle.std.proofs.Common.{◌≡◌, refl, ℕ, pos, true, List, [], ◌∷◌, codes, Option, Some, None}
use Rattle.std.specs.Fmt.{digits}
use Rattle.vb_tree.specs.BoundTree.{long, str, fixed, user, array, nothing}
use Rattle.vb_tree.specs.declared.bound.LibCall.TheVariants as lib
use Rattle.vb_tree.specs.declared.expression.BinOp.TheVariants as b
use Rattle.vb_tree.specs.Tree as source
use Rattle.bound_tree.specs.declared.expression.Root.{Root}
use Rattle.bound_tree.specs.declared.expression.Root.TheVariants as root
use Rattle.bound_tree.specs.Tree.{Expr, Line, Argument, typed, binary, convert, library, with_object, by_reference, by_value, no_object, no_passed, next_passed, no_exprs, next_expr}
use Rattle.run_base.specs.Outcomes.{printed, asked, boxed, Outcome, gives, raises, spent, outside}
use Rattle.run_base.specs.Frames.{by_value as given_value}
use Rattle.vb_tree.specs.declared.value.Value6.TheVariants as value
use Rattle.vb6_run.specs.Values.{scalar}
use Rattle.vb6_run.specs.Store.{Memory}
use Rattle.vb6_run.specs.Programs.{run6, empty_memory}
use Rattle.vb6_run.specs.Runnables.{Runnable}
use Rattle.vb6_run.proofs.Samples.{local, static, in_module, in_type, by_reference_in, by_value_in, answer, with_bounds, main_alone, loud, program, sub, function, user_type, code, word, lets, calls, prints, var, num, int, text, op, test, called, item, field_of, ended, left, ran, ran_with, line_text}

abbrev one : Argument → Line
one a = calls (called 1 nothing no_object (next_passed a no_passed))

abbrev says : List ℕ → Line
says t = prints (text t ∷ [])

-- ---- `n = 1`, `S n`, `Debug.Print n`, where S has a parameter x and does `x = x + 1`

abbrev n : Expr
n = var 0 long

abbrev x : Expr
x = var 1 long

abbrev by_reference_to : Argument → Runnable
by_reference_to a = loud (program (local 0 long ∷ by_reference_in 1 long ∷ []) [] (sub [] ∷ sub (1 ∷ []) ∷ [])
    ((lets n (num (pos 1)) ∷ one a ∷ prints (n ∷ []) ∷ []) ∷ (lets x (op b.Add x (num (pos 1))) ∷ []) ∷ []))

aliased : ran (by_reference_to (by_reference n)) 20 ≡ ended (line_text (codes " 2 ") ∷ [])
unfolding digits
aliased = refl

-- in parentheses, or converted, it passes a temporary
temporary : ran (by_reference_to (by_value n)) 20 ≡ ended (line_text (codes " 1 ") ∷ [])
unfolding digits
temporary = refl

converted : ran (by_reference_to (by_reference (typed long (convert long n)))) 20 ≡ ended (line_text (codes " 1 ") ∷ [])
unfolding digits
converted = refl

-- an argument of another type than its parameter's
other_type : ran (by_reference_to (by_value (int (pos 1)))) 20 ≡ left []
other_type = refl

abbrev by_value_to : Runnable
by_value_to = loud (program (local 0 long ∷ by_value_in 1 long ∷ []) [] (sub [] ∷ sub (1 ∷ []) ∷ [])
    ((lets n (num (pos 1)) ∷ one (by_value n) ∷ prints (n ∷ []) ∷ [])
    ∷ (lets x (op b.Add x (num (pos 1))) ∷ prints (x ∷ []) ∷ []) ∷ []))

takes_a_value : ran by_value_to 20 ≡ ended (line_text (codes " 2 ") ∷ line_text (codes " 1 ") ∷ [])
unfolding digits
takes_a_value = refl

-- a quiet parameter that is given a value has no place, so nothing is written to it
quiet_parameter : ran (record (by_reference_to (by_value n)) { quiet = λ p i. true }) 20 ≡ left []
quiet_parameter = refl

-- ---- a Function that calls itself: 4 * 3 * 2 * 1

abbrev product_to : Expr → Expr
product_to e = called 1 long no_object (next_passed (by_value e) no_passed)

abbrev product_lines : List Line
product_lines =
    code (source.if_head word) (test b.Less x (num (pos 2)) ∷ [])
    ∷ lets (var 2 long) (num (pos 1))
    ∷ code source.else_line []
    ∷ lets (var 2 long) (op b.Mul x (product_to (op b.Sub x (num (pos 1)))))
    ∷ code source.end_if []
    ∷ []

abbrev product : Runnable
product = loud (program (local 0 long ∷ by_value_in 1 long ∷ answer 1 long ∷ []) [] (sub [] ∷ function (1 ∷ []) 2 ∷ [])
    ((prints (product_to (num (pos 4)) ∷ []) ∷ []) ∷ product_lines ∷ []))

product_of_four : ran product 40 ≡ ended (line_text (codes " 24 ") ∷ [])
unfolding digits
product_of_four = refl

-- called by itself it gives the value
abbrev result : {A : Type 0} → Outcome Memory (Option A) → Option A
result (gives o a w) = a
result (raises o e w) = None
result (spent o w) = None
result (outside o) = None

product_by_itself : result (run6 product 1 None (given_value (scalar long (value.Long (pos 4))) ∷ []) [] 40 empty_memory)
    ≡ Some (scalar long (value.Long (pos 24)))
product_by_itself = refl

-- ---- a Static is made once, a local at each entry: `k = k + 1`, `m = m + 1`, `Debug.Print k; m`

abbrev twice : Runnable
twice = loud (program (static 1 long ∷ local 1 long ∷ []) [] (sub [] ∷ sub [] ∷ [])
    ((calls (called 1 nothing no_object no_passed) ∷ calls (called 1 nothing no_object no_passed) ∷ [])
    ∷ (lets n (op b.Add n (num (pos 1))) ∷ lets x (op b.Add x (num (pos 1))) ∷ prints (n ∷ x ∷ []) ∷ []) ∷ []))

static_stays : ran twice 20 ≡ ended (line_text (codes " 1  1 ") ∷ line_text (codes " 2  1 ") ∷ [])
unfolding digits
static_stays = refl

-- ---- the right side comes before the indexes of the target: `g(F()) = H()`, where F prints "f" and H prints "h"

abbrev in_order : Runnable
in_order = loud (program (with_bounds (pos 0) (pos 1) (in_module 1 (array long 1)) ∷ answer 1 long ∷ answer 2 long ∷ []) []
    (sub [] ∷ function [] 1 ∷ function [] 2 ∷ [])
    ((lets (item (var 0 (array long 1)) long (called 1 long no_object no_passed)) (called 2 long no_object no_passed) ∷ [])
    ∷ (says (codes "f") ∷ []) ∷ (says (codes "h") ∷ []) ∷ []))

right_side_first : ran in_order 20 ≡ ended (line_text (codes "h") ∷ line_text (codes "f") ∷ [])
right_side_first = refl

-- ---- a user type of a Long k and a String * 3: two variables u and v, and a Function that gives one

abbrev u : Expr
u = var 2 (user 0)

abbrev v : Expr
v = var 3 (user 0)

abbrev k_of : Expr → Expr
k_of e = field_of e 0 long

abbrev s_of : Expr → Expr
s_of e = field_of e 1 (fixed 3)

abbrev bar : Expr → Expr
bar e = typed str (binary b.Concat e (text (codes "|")))

abbrev with_types : List Line → Runnable
with_types lines = loud (program
    (in_type 0 long ∷ in_type 0 (fixed 3) ∷ local 0 (user 0) ∷ local 0 (user 0) ∷ answer 1 (user 0) ∷ by_reference_in 2 (user 0) ∷ [])
    (user_type (0 ∷ 1 ∷ []) ∷ [])
    (sub [] ∷ function [] 4 ∷ sub (5 ∷ []) ∷ [])
    (lines ∷ (lets (k_of (var 4 (user 0))) (num (pos 4)) ∷ []) ∷ (lets (k_of (var 5 (user 0))) (num (pos 9)) ∷ []) ∷ []))

-- it is a value, and its fixed string is padded and cut
copied : ran (with_types (
    lets (k_of u) (num (pos 5)) ∷ lets (s_of u) (text (codes "ab")) ∷ lets v u ∷ lets (k_of u) (num (pos 6)) ∷ lets (s_of u) (text (codes "abcd"))
    ∷ prints (k_of v ∷ bar (s_of v) ∷ bar (s_of u) ∷ []) ∷ [])) 20
    ≡ ended (line_text (codes " 5 ab |abc|") ∷ [])
unfolding digits
copied = refl

-- a fixed string begins as units 0
first_text : ran (with_types (prints (s_of u ∷ []) ∷ [])) 20 ≡ ended (line_text (0 ∷ 0 ∷ 0 ∷ []) ∷ [])
first_text = refl

field_of_a_result : ran (with_types (prints (k_of (called 1 (user 0) no_object no_passed) ∷ []) ∷ [])) 20
    ≡ ended (line_text (codes " 4 ") ∷ [])
unfolding digits
field_of_a_result = refl

given_by_reference : ran (with_types (
    calls (called 2 nothing no_object (next_passed (by_reference u) no_passed)) ∷ prints (k_of u ∷ []) ∷ [])) 20
    ≡ ended (line_text (codes " 9 ") ∷ [])
unfolding digits
given_by_reference = refl

-- ---- With keeps the address of a variable, and a place of its own for what a Function gives: `With e`, `.k = .k + 1`, `Debug.Print .k`

abbrev kept_by : Root → Expr
kept_by r = k_of (typed (user 0) (with_object r))

abbrev in_with : Expr → List Line
in_with e =
    code (source.with_head word) (e ∷ [])
    ∷ lets (kept_by root.Temporary) (op b.Add (kept_by root.Temporary) (num (pos 1)))
    ∷ prints (kept_by root.Temporary ∷ k_of u ∷ [])
    ∷ code source.end_with []
    ∷ []

with_a_variable : ran (with_types (in_with u)) 20 ≡ ended (line_text (codes " 1  1 ") ∷ [])
unfolding digits
with_a_variable = refl

with_a_result : ran (with_types (in_with (called 1 (user 0) no_object no_passed))) 20 ≡ ended (line_text (codes " 5  0 ") ∷ [])
unfolding digits
with_a_result = refl

-- ---- the library: `MsgBox "hi"`, `s = InputBox("q")`, `Debug.Print Left(s, 2); s`

abbrev asks : Runnable
asks = main_alone (local 0 str ∷ []) (
    calls (typed nothing (library lib.MsgBox (next_expr (text (codes "hi")) no_exprs)))
    ∷ lets (var 0 str) (typed str (library lib.InputBox (next_expr (text (codes "q")) no_exprs)))
    ∷ prints (typed str (library lib.Left (next_expr (var 0 str) (next_expr (num (pos 2)) no_exprs))) ∷ var 0 str ∷ [])
    ∷ []
    )

input_is_taken : ran_with asks (codes "abc" ∷ []) 20 ≡ ended (boxed (codes "hi") ∷ asked (codes "q") ∷ line_text (codes "ababc") ∷ [])
input_is_taken = refl

no_input_is_left : ran asks 20 ≡ ended (boxed (codes "hi") ∷ asked (codes "q") ∷ line_text [] ∷ [])
no_input_is_left = refl

-- Windows-1252 has no character of the number 81 hex
unit_without_a_byte : ran_with asks ((0x81 ∷ []) ∷ []) 20 ≡ left (boxed (codes "hi") ∷ asked (codes "q") ∷ [])
unit_without_a_byte = refl

-- a `;` at the end of a Debug.Print leaves the line open
open_line : ran (main_alone [] (code (source.debug_print [] true) (text (codes "a") ∷ text (codes "b") ∷ []) ∷ [])) 20
    ≡ ended (printed (codes "ab") ∷ [])
open_line = refl
