-- Runs of small programs, worked out by hand: arrays.
use Rattle.std.proofs.Common.{◌≡◌, refl, ℕ, ℤ, pos, negsuc, false, true, List, [], ◌∷◌, codes, Some, None, cond, nat_eq}
use Rattle.std.specs.Fmt.{digits}
use Rattle.vb_tree.specs.BoundTree.{long, array, nothing, user}
use Rattle.vb_tree.specs.declared.bound.LibCall.{LibCall}
use Rattle.vb_tree.specs.declared.bound.LibCall.TheVariants as lib
use Rattle.vb_tree.specs.declared.expression.BinOp.TheVariants as b
use Rattle.vb_tree.specs.Tree as source
use Rattle.bound_tree.specs.Tree.{Expr, Line, typed, library, element, by_reference, by_value, no_object, no_passed, next_passed, no_exprs, next_expr}
use Rattle.vb6_run.specs.Values.{Dimension}
use Rattle.vb6_run.specs.Arrays.{element_place}
use Rattle.vb6_run.specs.Runnables.{Runnable}
use Rattle.vb6_run.proofs.Samples.{field_of, in_type, by_value_in, user_type, local, in_module, by_reference_in, answer, with_bounds, main_alone, loud, program, sub, function, code, word, lets, calls, prints, var, num, op, called, item, ended, raised, left, ran, line_text}

-- ---- the last index runs through its dimension first: of (0 To 1, 0 To 2) the element (1, 0) has the place 3

abbrev two_by_three : List Dimension
two_by_three = record { low = pos 0; count = 2 } ∷ record { low = pos 0; count = 3 } ∷ []

place_of_an_element : element_place two_by_three (pos 1 ∷ pos 0 ∷ []) ≡ Some 3
place_of_an_element = refl

index_past_a_dimension : element_place two_by_three (pos 0 ∷ pos 3 ∷ []) ≡ None
index_past_a_dimension = refl

-- ---- arrays of Longs: a is dynamic, b has the bounds 0 To 1, c the bounds 1 To 3, d the bounds 0 To 1, 0 To 2

abbrev a : Expr
a = var 0 (array long 0)

abbrev b_array : Expr
b_array = var 1 (array long 1)

abbrev c : Expr
c = var 2 (array long 1)

abbrev d : Expr
d = var 3 (array long 2)

-- all begin at 0 but c
abbrev lows : (variable dimension : ℕ) → ℤ
lows x k = cond (nat_eq x 2) (pos 1) (pos 0)

abbrev with_arrays : List Line → Runnable
with_arrays lines = record (main_alone (
    local 0 (array long 0)
    ∷ with_bounds (pos 0) (pos 1) (local 0 (array long 1))
    ∷ with_bounds (pos 1) (pos 3) (local 0 (array long 1))
    ∷ with_bounds (pos 0) (pos 1) (with_bounds (pos 0) (pos 2) (local 0 (array long 2)))
    ∷ []) lines) { low = lows }

abbrev at_index : Expr → ℤ → Expr
at_index x z = item x long (num z)

abbrev at_two : (i j : ℤ) → Expr
at_two i j = typed long (element d (next_expr (num i) (next_expr (num j) no_exprs)))

abbrev bound_in : LibCall → Expr → Expr
bound_in f x = typed long (library f (next_expr x no_exprs))

abbrev one_bound : source.ReDimItem
one_bound = record { array = word; bounds = record { lower = None; upper = word } ∷ []; ty = None }

abbrev two_bounds : source.ReDimItem
two_bounds = record { array = word; bounds = record { lower = Some word; upper = word } ∷ []; ty = None }

abbrev redim : Expr → ℤ → Line
redim x high = code (source.redim false (one_bound ∷ [])) (x ∷ num high ∷ [])

abbrev redim_preserve : Expr → ℤ → Line
redim_preserve x high = code (source.redim true (one_bound ∷ [])) (x ∷ num high ∷ [])

abbrev redim_from : Expr → (low high : ℤ) → Line
redim_from x low high = code (source.redim false (two_bounds ∷ [])) (x ∷ num low ∷ num high ∷ [])

-- ---- elements and bounds

elements_of_a_fixed_array : ran (with_arrays (
    lets (at_index c (pos 2)) (num (pos 7))
    ∷ prints (at_index c (pos 2) ∷ bound_in lib.LBound c ∷ bound_in lib.UBound c ∷ [])
    ∷ prints (at_index c (pos 4) ∷ [])
    ∷ [])) 20
    ≡ raised (line_text (codes " 7  1  3 ") ∷ []) 9
unfolding digits
elements_of_a_fixed_array = refl

elements_of_rank_two : ran (with_arrays (
    lets (at_two (pos 1) (pos 0)) (num (pos 7)) ∷ prints (at_two (pos 1) (pos 0) ∷ at_two (pos 0) (pos 1) ∷ []) ∷ [])) 20
    ≡ ended (line_text (codes " 7  0 ") ∷ [])
unfolding digits
elements_of_rank_two = refl

-- `UBound(d, 2)`
second_dimension : ran (with_arrays (prints (typed long (library lib.UBound (next_expr d (next_expr (num (pos 2)) no_exprs))) ∷ []) ∷ [])) 20
    ≡ ended (line_text (codes " 2 ") ∷ [])
unfolding digits
second_dimension = refl

-- ---- an array that isn't allocated: any use of its elements or bounds raises 9

no_element : ran (with_arrays (prints (at_index a (pos 0) ∷ []) ∷ [])) 20 ≡ raised [] 9
no_element = refl

no_bound : ran (with_arrays (prints (bound_in lib.UBound a ∷ []) ∷ [])) 20 ≡ raised [] 9
no_bound = refl

-- ---- ReDim, Preserve and Erase

preserved_elements : ran (with_arrays (
    redim a (pos 1) ∷ lets (at_index a (pos 1)) (num (pos 5)) ∷ redim_preserve a (pos 3)
    ∷ prints (at_index a (pos 1) ∷ bound_in lib.UBound a ∷ []) ∷ [])) 20
    ≡ ended (line_text (codes " 5  3 ") ∷ [])
unfolding digits
preserved_elements = refl

new_elements : ran (with_arrays (
    redim a (pos 1) ∷ lets (at_index a (pos 1)) (num (pos 5)) ∷ redim a (pos 3) ∷ prints (at_index a (pos 1) ∷ []) ∷ [])) 20
    ≡ ended (line_text (codes " 0 ") ∷ [])
unfolding digits
new_elements = refl

upper_below_lower : ran (with_arrays (redim a (negsuc 0) ∷ [])) 20 ≡ raised [] 9
upper_below_lower = refl

-- the first array is made before the bounds of the second one are evaluated: `ReDim a(1), a(UBound(a) + 1)`
made_from_the_left : ran (with_arrays (
    code (source.redim false (one_bound ∷ one_bound ∷ [])) (a ∷ num (pos 1) ∷ a ∷ op b.Add (bound_in lib.UBound a) (num (pos 1)) ∷ [])
    ∷ prints (bound_in lib.UBound a ∷ []) ∷ [])) 20
    ≡ ended (line_text (codes " 2 ") ∷ [])
unfolding digits
made_from_the_left = refl

erased : ran (with_arrays (redim a (pos 1) ∷ code (source.erase word) (a ∷ []) ∷ prints (bound_in lib.LBound a ∷ []) ∷ [])) 20 ≡ raised [] 9
erased = refl

-- a fixed array isn't made anew, nor an array with a lower bound that its ties don't give it
fixed_array : ran (with_arrays (redim b_array (pos 5) ∷ [])) 20 ≡ left []
fixed_array = refl

other_lower_bound : ran (with_arrays (redim_from a (pos 1) (pos 2) ∷ [])) 20 ≡ left []
other_lower_bound = refl

-- ---- an array is a value: `b(0) = 4`, `a = b`, `b(0) = 5`, `Debug.Print a(0)`

copied : ran (with_arrays (
    lets (at_index b_array (pos 0)) (num (pos 4)) ∷ lets a b_array ∷ lets (at_index b_array (pos 0)) (num (pos 5))
    ∷ prints (at_index a (pos 0) ∷ bound_in lib.UBound a ∷ []) ∷ [])) 20
    ≡ ended (line_text (codes " 4  1 ") ∷ [])
unfolding digits
copied = refl

-- ---- an element by reference: `ReDim g(1)`, `S g(n)`, `Debug.Print g(1)` with a module variable g; S has a parameter x by reference

abbrev g : Expr
g = var 0 (array long 0)

abbrev x : Expr
x = var 1 long

abbrev with_element : (n : ℤ) → List Line → Runnable
with_element n lines = loud (program (in_module 1 (array long 0) ∷ by_reference_in 1 long ∷ []) [] (sub [] ∷ sub (1 ∷ []) ∷ [])
    ((redim g (pos 1) ∷ calls (called 1 nothing no_object (next_passed (by_reference (at_index g n)) no_passed))
    ∷ prints (at_index g (pos 1) ∷ []) ∷ [])
    ∷ lines ∷ []))

changed_in_its_array : ran (with_element (pos 1) (lets x (op b.Add x (num (pos 3))) ∷ [])) 20 ≡ ended (line_text (codes " 3 ") ∷ [])
unfolding digits
changed_in_its_array = refl

-- while it is bound its array is locked
locked : ran (with_element (pos 1) (redim g (pos 5) ∷ [])) 20 ≡ raised [] 10
locked = refl

locked_for_erase : ran (with_element (pos 1) (code (source.erase word) (g ∷ []) ∷ [])) 20 ≡ raised [] 10
locked_for_erase = refl

-- its index is checked before the entry: one step is left for it, and isn't needed
checked_as_an_argument : ran (with_element (pos 2) []) 3 ≡ raised [] 9
checked_as_an_argument = refl

-- ---- the array variable of an element is read after its indexes: `Debug.Print g(F())`, where F makes g and gives 2

abbrev grows : Runnable
grows = loud (program (in_module 1 (array long 0) ∷ answer 1 long ∷ []) [] (sub [] ∷ function [] 1 ∷ [])
    ((prints (item g long (called 1 long no_object no_passed) ∷ []) ∷ [])
    ∷ (redim g (pos 3) ∷ lets (var 1 long) (num (pos 2)) ∷ []) ∷ []))

read_after_its_index : ran grows 20 ≡ ended (line_text (codes " 0 ") ∷ [])
unfolding digits
read_after_its_index = refl

-- ---- a user type that holds an array is copied with it: `ReDim u.f(1)`, `u.f(0) = 4`, `v = u`, `u.f(0) = 5`, then a Sub prints `t.f(0)` of v

abbrev u : Expr
u = var 1 (user 0)

abbrev v : Expr
v = var 2 (user 0)

abbrev f_of : Expr → Expr
f_of e = field_of e 0 (array long 0)

abbrev holds_an_array : List Line → Runnable
holds_an_array lines = loud (program
    (in_type 0 (array long 0) ∷ in_module 1 (user 0) ∷ in_module 1 (user 0) ∷ by_value_in 1 (user 0) ∷ by_reference_in 2 long ∷ [])
    (user_type (0 ∷ []) ∷ [])
    (sub [] ∷ sub (3 ∷ []) ∷ sub (4 ∷ []) ∷ [])
    ((redim (f_of u) (pos 1) ∷ lets (at_index (f_of u) (pos 0)) (num (pos 4)) ∷ lines)
    ∷ (prints (at_index (f_of (var 3 (user 0))) (pos 0) ∷ []) ∷ [])
    ∷ (lets u v ∷ [])
    ∷ []))

copied_with_its_array : ran (holds_an_array (
    lets v u ∷ lets (at_index (f_of u) (pos 0)) (num (pos 5)) ∷ calls (called 1 nothing no_object (next_passed (by_value v) no_passed)) ∷ [])) 20
    ≡ ended (line_text (codes " 4 ") ∷ [])
unfolding digits
copied_with_its_array = refl

-- an assignment of the user type gives its array other elements, which one that is bound doesn't allow
locked_in_a_user_type : ran (holds_an_array (
    calls (called 2 nothing no_object (next_passed (by_reference (at_index (f_of u) (pos 0))) no_passed)) ∷ [])) 20
    ≡ raised [] 10
locked_in_a_user_type = refl
