-- Runs of small programs, worked out by hand: objects.
use Rattle.std.proofs.Common.{◌≡◌, refl, ℕ, ℤ, pos, List, [], ◌∷◌, codes, Some, None, false}
use Rattle.std.specs.Fmt.{digits}
use Rattle.vb_tree.specs.BoundTree.{long, class, nothing, boolean, array}
use Rattle.vb_tree.specs.declared.declared.ProcKind.TheVariants as kind
use Rattle.vb_tree.specs.declared.expression.BinOp.TheVariants as b
use Rattle.vb_tree.specs.declared.value.Value6.TheVariants as value
use Rattle.vb_tree.specs.Tree as source
use Rattle.bound_tree.specs.declared.expression.Origin.TheVariants.{Literal}
use Rattle.bound_tree.specs.declared.expression.Root.TheVariants as root
use Rattle.bound_tree.specs.Tree.{Expr, Line, Variable, Procedure, Passed, typed, constant, convert, new_object, is_same, me, with_object, by_reference, by_value, no_object, of_object, no_passed, next_passed}
use Rattle.vb6_run.specs.Runnables.{Runnable}
use Rattle.vb6_run.proofs.Samples.{class_id, local, static, in_module, by_reference_in, by_value_in, answer, as_new, loud, program, procedure, sub, function, code, word, lets, sets, calls, prints, var, num, text, op, called, item, field_of, ended, raised, left, ran, line_text}

-- A class with the fields n, kid As New and a dynamic array items. Its procedures: 1 Class_Initialize, `n = 7`, `Debug.Print "made"`;
-- 2 Property Get P(i), `P = n * i`; 3 Property Let P(i, x), `n = x - i`; 4 Sub Count, a Static k, `k = k + 1`, `Debug.Print k; n`;
-- 7 Property Set Q(z), `Set kid = z`, `Debug.Print z Is Me`. In the module: 5 Function F, `Debug.Print "arg"`, `F = 2`; 6 Sub S(y), `y = 9`;
-- 8 Sub Fill(t()), `ReDim t(2)`. Main has the objects o, and a As New.

abbrev vars : List Variable
vars =
    in_module 2 long  -- 0 n
    ∷ by_value_in 2 long  -- 1 i of the Get
    ∷ answer 2 long  -- 2 P
    ∷ by_value_in 3 long  -- 3 i of the Let
    ∷ by_value_in 3 long  -- 4 x
    ∷ static 4 long  -- 5 k
    ∷ answer 5 long  -- 6 F
    ∷ by_reference_in 6 long  -- 7 y
    ∷ local 0 (class 0)  -- 8 o
    ∷ as_new (local 0 (class 0))  -- 9 a
    ∷ as_new (in_module 2 (class 0))  -- 10 kid
    ∷ by_value_in 7 (class 0)  -- 11 z
    ∷ in_module 2 (array long 0)  -- 12 items
    ∷ by_reference_in 8 (array long 0)  -- 13 t
    ∷ []

abbrev n : Expr
n = var 0 long

abbrev says : List ℕ → Line
says t = prints (text t ∷ [])

abbrev procs : List ℕ → List Procedure
procs name =
    sub []
    ∷ procedure name 2 kind.Sub [] None
    ∷ procedure (codes "P") 2 kind.Get (1 ∷ []) (Some 2)
    ∷ procedure (codes "P") 2 kind.Let (3 ∷ 4 ∷ []) None
    ∷ procedure (codes "Count") 2 kind.Sub [] None
    ∷ function [] 6
    ∷ sub (7 ∷ [])
    ∷ procedure (codes "Q") 2 kind.Set (11 ∷ []) None
    ∷ sub (13 ∷ [])
    ∷ []

abbrev the_redim : Expr → ℤ → Line
the_redim e high =
    code (source.redim false (record { array = word; bounds = record { lower = None; upper = word } ∷ []; ty = None } ∷ [])) (e ∷ num high ∷ [])

abbrev bodies : List Line → List (List Line)
bodies lines =
    lines
    ∷ (lets n (num (pos 7)) ∷ says (codes "made") ∷ [])
    ∷ (lets (var 2 long) (op b.Mul n (var 1 long)) ∷ [])
    ∷ (lets n (op b.Sub (var 4 long) (var 3 long)) ∷ [])
    ∷ (lets (var 5 long) (op b.Add (var 5 long) (num (pos 1))) ∷ prints (var 5 long ∷ n ∷ []) ∷ [])
    ∷ (says (codes "arg") ∷ lets (var 6 long) (num (pos 2)) ∷ [])
    ∷ (lets (var 7 long) (num (pos 9)) ∷ [])
    ∷ (sets (var 10 (class 0)) (var 11 (class 0)) ∷ prints (typed boolean (is_same (var 11 (class 0)) (typed (class 0) me)) ∷ []) ∷ [])
    ∷ (the_redim (var 13 (array long 0)) (pos 2) ∷ [])
    ∷ []

abbrev with_class : List Line → Runnable
with_class lines = loud (program vars [] (procs (codes "Class_Initialize")) (bodies lines))

abbrev o : Expr
o = var 8 (class 0)

abbrev a : Expr
a = var 9 (class 0)

abbrev makes : Line
makes = sets o (typed (class 0) (new_object (class_id 0)))

abbrev no_object_in : Expr
no_object_in = typed (class 0) (convert (class 0) (typed nothing (constant value.Nothing Literal)))

abbrev n_of : Expr → Expr
n_of e = field_of e 0 long

abbrev with_two : Expr → Passed
with_two e = next_passed (by_value e) no_passed

abbrev p_of : (part : ℕ) → Expr → Expr → Expr
p_of p e i = called p long (of_object e) (with_two i)

abbrev count_of : Expr → Line
count_of e = calls (called 4 nothing (of_object e) no_passed)

abbrev gives_two : Expr
gives_two = called 5 long no_object no_passed

-- ---- creation runs Class_Initialize; its entry and its two lines take a step each

new_object_has_its_field : ran (with_class (makes ∷ prints (n_of o ∷ []) ∷ [])) 6 ≡ ended (line_text (codes "made") ∷ line_text (codes " 7 ") ∷ [])
unfolding digits
new_object_has_its_field = refl

abbrev terminates : Runnable
terminates = loud (program vars [] (procs (codes "Class_Terminate")) (bodies (says (codes "first") ∷ makes ∷ [])))

no_fixed_time : ran terminates 20 ≡ left (line_text (codes "first") ∷ [])
no_fixed_time = refl

-- ---- As New: the object is made at a use, in `Is Nothing` too, but not as the target of a Set

abbrev is_nothing : Expr → Expr
is_nothing e = typed boolean (is_same e (typed nothing (constant value.Nothing Literal)))

made_at_each_use : ran (with_class (
    sets a no_object_in ∷ says (codes "set") ∷ prints (n_of a ∷ []) ∷ sets a no_object_in ∷ prints (is_nothing a ∷ is_nothing o ∷ []) ∷ [])) 40
    ≡ ended (line_text (codes "set") ∷ line_text (codes "made") ∷ line_text (codes " 7 ") ∷ line_text (codes "made") ∷ line_text (codes "FalseTrue")
    ∷ [])
unfolding digits
made_at_each_use = refl

-- ---- a property with an index; the value comes before the index: `o.P(2) = 5`, `Debug.Print o.P(3)`

set_and_got : ran (with_class (
    makes ∷ lets (p_of 3 o (num (pos 2))) (num (pos 5)) ∷ prints (n_of o ∷ p_of 2 o (num (pos 3)) ∷ []) ∷ [])) 40
    ≡ ended (line_text (codes "made") ∷ line_text (codes " 3  9 ") ∷ [])
unfolding digits
set_and_got = refl

-- ---- Nothing: a call checks its object after its arguments, a field as it is reached, a With at the use of a member

-- no step is left for the entry of the Get, and none is needed
call_on_nothing : ran (with_class (prints (p_of 2 o gives_two ∷ []) ∷ [])) 5 ≡ raised (line_text (codes "arg") ∷ []) 91
call_on_nothing = refl

set_on_nothing : ran (with_class (lets (p_of 3 o gives_two) (num (pos 5)) ∷ [])) 40 ≡ raised (line_text (codes "arg") ∷ []) 91
set_on_nothing = refl

field_of_nothing : ran (with_class (lets (n_of o) gives_two ∷ [])) 40 ≡ raised (line_text (codes "arg") ∷ []) 91
field_of_nothing = refl

abbrev kept : Expr
kept = typed (class 0) (with_object root.Object)

with_nothing : ran (with_class (
    code (source.with_head word) (o ∷ []) ∷ says (codes "in") ∷ lets (n_of kept) (num (pos 1)) ∷ code source.end_with [] ∷ [])) 40
    ≡ raised (line_text (codes "in") ∷ []) 91
with_nothing = refl

-- With keeps the object, whatever its variable holds later
with_an_object : ran (with_class (
    makes ∷ code (source.with_head word) (o ∷ []) ∷ sets o no_object_in ∷ lets (n_of kept) (num (pos 3)) ∷ count_of kept
    ∷ code source.end_with [] ∷ [])) 40
    ≡ ended (line_text (codes "made") ∷ line_text (codes " 1  3 ") ∷ [])
unfolding digits
with_an_object = refl

-- ---- an object's field by reference passes a temporary

temporary_field : ran (with_class (
    makes ∷ calls (called 6 nothing no_object (next_passed (by_reference (n_of o)) no_passed)) ∷ prints (n_of o ∷ []) ∷ [])) 40
    ≡ ended (line_text (codes "made") ∷ line_text (codes " 7 ") ∷ [])
unfolding digits
temporary_field = refl

-- ---- an As New field makes its object at a use; a Property Set puts another one there

abbrev kid_of : Expr → Expr
kid_of e = field_of e 1 (class 0)

made_in_a_field : ran (with_class (makes ∷ lets (n_of (kid_of o)) (num (pos 3)) ∷ prints (n_of (kid_of o) ∷ n_of o ∷ []) ∷ [])) 40
    ≡ ended (line_text (codes "made") ∷ line_text (codes "made") ∷ line_text (codes " 3  7 ") ∷ [])
unfolding digits
made_in_a_field = refl

put_into_a_field : ran (with_class (makes ∷ sets (called 7 (class 0) (of_object o) no_passed) o ∷ prints (n_of (kid_of (kid_of o)) ∷ []) ∷ [])) 40
    ≡ ended (line_text (codes "made") ∷ line_text (codes "True") ∷ line_text (codes " 7 ") ∷ [])
unfolding digits
put_into_a_field = refl

-- ---- an object's array goes by reference, and so does an element of it: `Fill o.items`, `S o.items(1)`, `Debug.Print o.items(1)`

abbrev items_of : Expr → Expr
items_of e = field_of e 2 (array long 0)

abbrev first_item : Expr
first_item = item (items_of o) long (num (pos 1))

array_of_an_object : ran (with_class (
    makes ∷ calls (called 8 nothing no_object (next_passed (by_reference (items_of o)) no_passed))
    ∷ calls (called 6 nothing no_object (next_passed (by_reference first_item) no_passed)) ∷ prints (first_item ∷ []) ∷ [])) 40
    ≡ ended (line_text (codes "made") ∷ line_text (codes " 9 ") ∷ [])
unfolding digits
array_of_an_object = refl

-- ---- each object has its own fields and its own Statics

each_its_own : ran (with_class (makes ∷ count_of o ∷ count_of o ∷ makes ∷ count_of o ∷ [])) 60
    ≡ ended (line_text (codes "made") ∷ line_text (codes " 1  7 ") ∷ line_text (codes " 2  7 ") ∷ line_text (codes "made")
    ∷ line_text (codes " 1  7 ") ∷ [])
unfolding digits
each_its_own = refl
