-- Runs that are computed: lines, blocks, errors, arrays and functions of the support module.
use Rattle.std.proofs.Common.{map, ◌≡◌, refl, ℕ, true, false, List, [], ◌∷◌, codes, Some, None}
use Rattle.std.specs.Fmt.{digits}
use Rattle.net_tree.specs.declared.expression.CastWord.TheVariants as word
use Rattle.net_tree.specs.declared.expression.NetBin.TheVariants as op
use Rattle.net_tree.specs.declared.line.NetExit.TheVariants as exits
use Rattle.net_tree.specs.declared.line.NetLabel.TheVariants as mark
use Rattle.net_tree.specs.Tree as net
use Rattle.net_tree.specs.Tree.{Exp, no_exps, next_exp}
use Rattle.net_tree.specs.Types as t
use Rattle.run_base.specs.Outcomes.{printed, asked, boxed}
use Rattle.net_run.specs.Program.{program_runs}
use Rattle.net_run.proofs.Writing.{name, behind, int, short, text, no_extent, one, two, three, calls, with_support, plus, equals, below, let_be, support_line, say, say_number, line_text, named_as, dim, dim_array, runs, puts, lines, lines_then, left_meaning, main_of}

abbrev a : Exp
a = name (codes "a")

abbrev b : Exp
b = name (codes "b")

abbrev m : Exp
m = name (codes "m")

abbrev label : List ℕ → net.Line
label l = net.label (mark.Word l)

-- ---- a text: `PrintLine("hi")`

hello : puts (main_of [] (say (text (codes "hi")) ∷ [])) (lines (codes "hi" ∷ []))
hello = refl

-- ---- an overflow that is handled: `On Error GoTo L`, `a = 2147483647`, `a = (a + 1)`, `PrintLine("next")`, `Exit Sub`, `L:`,
-- `PrintLine(CStr(ErrNumber()))`, `Resume Next`

overflow_handled : puts
    (main_of
    (dim (codes "a") t.integer ∷ [])
    (net.on_error_goto (mark.Word (codes "L"))
    ∷ let_be a (int 2147483647)
    ∷ let_be a (plus a (int 1))
    ∷ say (text (codes "next"))
    ∷ net.exit exits.Sub
    ∷ label (codes "L")
    ∷ say_number (with_support (codes "ErrNumber") no_exps)
    ∷ net.resume_next
    ∷ []))
    (lines (codes "6" ∷ codes "next" ∷ []))
unfolding digits
overflow_handled = refl

-- the same without a handler
overflow_raised : puts
    (main_of (dim (codes "a") t.integer ∷ []) (let_be a (int 2147483647) ∷ let_be a (plus a (int 1)) ∷ say (text (codes "next")) ∷ []))
    (lines_then [] 6)
overflow_raised = refl

-- an error at a head leaves no line to go on at: `On Error Resume Next`, `PrintLine("a")`, `If ((1 \ 0) = 0) Then`
head_left : left_meaning (program_runs
    (main_of []
    (net.on_error_resume_next
    ∷ say (text (codes "a"))
    ∷ net.if_head (equals (net.binary op.IntDiv (int 1) (int 0)) (int 0))
    ∷ net.end_if
    ∷ [])) 90 0 [])
    ≡ Some (line_text (codes "a") ∷ [])
head_left = refl

-- `On Error Resume Next`, `Raise(13)`, the Err number, `ErrClear()`, the Err number, `Resume Next` without an error
errors : puts
    (main_of []
    (net.on_error_resume_next
    ∷ support_line (codes "Raise") (one (int 13))
    ∷ say_number (with_support (codes "ErrNumber") no_exps)
    ∷ support_line (codes "ErrClear") no_exps
    ∷ say_number (with_support (codes "ErrNumber") no_exps)
    ∷ net.on_error_goto_zero
    ∷ net.resume_next
    ∷ []))
    (lines_then (codes "13" ∷ codes "0" ∷ []) 20)
unfolding digits
errors = refl

not_upgraded : puts (main_of [] (support_line (codes "NotUpgraded") (one (int 4)) ∷ [])) (lines_then [] 1004)
not_upgraded = refl

-- ---- blocks

-- `For a = 3 To 1 Step -1`, `Select Case a` with `Case 3` and `Case 1 To 2`, in which `If (a = 2) Then`, `Else`
counting : puts
    (main_of
    (dim (codes "a") t.integer ∷ [])
    (net.for_head a (int 3) (int 1) (Some no_extent)
    ∷ net.select a
    ∷ net.case_line (net.case_value (int 3) ∷ [])
    ∷ say (text (codes "three"))
    ∷ net.case_line (net.case_is op.Greater (int 9) ∷ net.case_range (int 1) (int 2) ∷ [])
    ∷ net.if_head (equals a (int 2))
    ∷ say (text (codes "two"))
    ∷ net.else_line
    ∷ say (text (codes "one"))
    ∷ net.end_if
    ∷ net.case_else
    ∷ say (text (codes "never"))
    ∷ net.end_select
    ∷ net.next
    ∷ say_number a
    ∷ []))
    (lines (codes "three" ∷ codes "two" ∷ codes "one" ∷ codes "0" ∷ []))
unfolding digits
counting = refl

-- the counter of a For leaves its type at Next: `For a = 32766S To 32767S`
counter_overflow : puts
    (main_of (dim (codes "a") t.short ∷ []) (net.for_head a (short 32766) (short 32767) None ∷ say_number a ∷ net.next ∷ []))
    (lines_then (codes "32766" ∷ codes "32767" ∷ []) 6)
unfolding digits
counter_overflow = refl

-- `Do` .. `Exit Do` .. `Loop While (a < 10)`, `While (1 < a)` .. `End While`, `Do Until (a = 2)` .. `Loop`, `GoTo E`
loops : puts
    (main_of
    (dim (codes "a") t.integer ∷ [])
    (net.do_head
    ∷ let_be a (plus a (int 1))
    ∷ net.if_head (equals a (int 3))
    ∷ net.exit exits.Do
    ∷ net.end_if
    ∷ net.loop_while (below a (int 10))
    ∷ say_number a
    ∷ net.while_head (below (int 1) a)
    ∷ let_be a (plus a no_extent)
    ∷ net.end_while
    ∷ say_number a
    ∷ net.do_until (equals a (int 2))
    ∷ let_be a (plus a (int 1))
    ∷ net.loop
    ∷ net.goto (mark.Word (codes "E"))
    ∷ say (text (codes "never"))
    ∷ label (codes "e")
    ∷ say_number a
    ∷ []))
    (lines (codes "3" ∷ codes "1" ∷ codes "2" ∷ []))
unfolding digits
loops = refl

-- lines before the first Case are reached by a jump alone, and the closing line follows them
jumped_into_select : puts
    (main_of []
    (net.goto (mark.Number 7)
    ∷ net.select (int 1)
    ∷ net.label (mark.Number 7)
    ∷ net.case_line (net.case_value (int 1) ∷ [])
    ∷ say (text (codes "never"))
    ∷ net.end_select
    ∷ say (text (codes "end"))
    ∷ []))
    (lines (codes "end" ∷ []))
jumped_into_select = refl

-- a Next whose For never kept its limits has no meaning
jumped_into_for : left_meaning (program_runs
    (main_of (dim (codes "a") t.integer ∷ [])
    (net.goto (mark.Number 7) ∷ net.for_head a (int 1) (int 2) None ∷ net.label (mark.Number 7) ∷ net.next ∷ [])) 90 0 [])
    ≡ Some []
jumped_into_for = refl

-- a With on a value without members
with_on_number : puts
    (main_of (dim (codes "a") t.integer ∷ []) (net.with_head a ∷ say (text (codes "in")) ∷ net.end_with ∷ []))
    (lines (codes "in" ∷ []))
with_on_number = refl

-- ---- arrays

abbrev element : Exp → Exp → Exp
element of i = net.call_of of (one i)

abbrev clone : Exp → Exp
clone of = net.ctype (net.call_of (behind (codes "a") (codes "Clone")) no_exps) (t.array_of t.short 1)

abbrev high : Exp → Exp → Exp → Exp
high of d low = with_support (codes "Hi") (three of d low)

-- `a` has indexes 2 to 4 in the source; `b` is a copy of it, and then keeps two of its elements
arrays : puts
    (main_of
    (dim_array (codes "a") t.short (int 2) ∷ dim_array (codes "b") t.short no_extent ∷ [])
    (let_be (element a (int 1)) (short 7)
    ∷ let_be (element a (with_support (codes "At") (two (int 4) (int 2)))) (short 9)
    ∷ let_be b (clone a)
    ∷ let_be (element a (int 1)) (short 8)
    ∷ say_number (element a (int 1))
    ∷ say_number (element b (int 1))
    ∷ say_number (element b (int 2))
    ∷ say_number (high b (int 0) (int 2))
    ∷ net.redim true (record { array = b; bounds = one (with_support (codes "Top") (two (int 3) (int 2))) } ∷ [])
    ∷ say_number (high b (int 0) (int 2))
    ∷ say_number (element b (int 1))
    ∷ let_be b (net.new_array t.short (one no_extent))
    ∷ let_be (element b (with_support (codes "At") (two (int 1) (int 2)))) (short 1)
    ∷ []))
    (lines_then (codes "8" ∷ codes "7" ∷ codes "9" ∷ codes "4" ∷ codes "3" ∷ codes "7" ∷ []) 9)
unfolding digits
arrays = refl

-- two dimensions, of which the last index varies fastest; an array that is assigned is shared
planes : puts
    (main_of
    (net.local (named_as (codes "m") (t.array_of t.integer 2) (Some (net.new_array t.integer (two (int 1) (int 2)))))
    ∷ dim (codes "b") (t.array_of t.integer 2)
    ∷ [])
    (let_be (calls m (two (int 1) (int 0))) (int 5)
    ∷ let_be (calls m (two (int 0) (int 2))) (int 6)
    ∷ let_be b m
    ∷ let_be (calls b (two (int 1) (int 0))) (int 4)
    ∷ say_number (calls m (two (int 1) (int 0)))
    ∷ say_number (calls m (two (int 0) (int 2)))
    ∷ say_number (high m (int 1) (int 0))
    ∷ say_number (calls m (two (int 0) (int 3)))
    ∷ []))
    (lines_then (codes "4" ∷ codes "6" ∷ codes "2" ∷ []) 9)
unfolding digits
planes = refl

-- an array variable that holds Nothing, and ReDim below the lower bound
no_array_yet : puts
    (main_of (dim (codes "a") (t.array_of t.short 1) ∷ []) (let_be (element a (int 0)) (short 1) ∷ []))
    (lines_then [] 91)
no_array_yet = refl

top_below : puts
    (main_of (dim_array (codes "a") t.short no_extent ∷ [])
    (net.redim false (record { array = a; bounds = one (with_support (codes "Top") (two (int 1) (int 2))) } ∷ []) ∷ []))
    (lines_then [] 9)
top_below = refl

-- ---- functions of the support module and of the library

support_calls : puts
    (main_of
    (dim (codes "a") t.object ∷ [])
    (say (text (codes "x"))
    ∷ support_line (codes "PrintPart") (one (with_support (codes "Fix") (two (text (codes "ab")) (int 3))))
    ∷ let_be a (with_support (codes "VarAdd") (two (net.cast word.CObj (short 1)) (net.cast word.CObj (int 2))))
    ∷ say (with_support (codes "PrintVar") (one a))
    ∷ support_line (codes "PutObject") (two (net.cast word.CObj (text (codes "t"))) a)
    ∷ say (net.binary op.Concat (text (codes "=")) (with_support (codes "VarStr") (one a)))
    ∷ say (net.call_of (net.path (codes "Microsoft" ∷ codes "VisualBasic" ∷ codes "Strings" ∷ codes "Left" ∷ []))
    (two (text (codes "left")) (int 2)))
    ∷ say_number (net.binary op.Is a net.nothing)
    ∷ []))
    (Some (line_text (codes "x") ∷ printed (codes "ab ") ∷ map line_text (codes " 3 " ∷ codes "=t" ∷ codes "le" ∷ codes "False" ∷ []), None))
unfolding digits
support_calls = refl

-- the first question takes the one input, the second has the empty text
questions : runs
    (main_of
    (dim (codes "a") t.str ∷ [])
    (let_be a (with_support (codes "Ask") (one (text (codes "?"))))
    ∷ support_line (codes "Box") (one a)
    ∷ support_line (codes "Box") (one (with_support (codes "Ask") (one (text (codes "?")))))
    ∷ [])) (codes "yes" ∷ [])
    ≡ Some (asked (codes "?") ∷ boxed (codes "yes") ∷ asked (codes "?") ∷ boxed [] ∷ [], None)
questions = refl
