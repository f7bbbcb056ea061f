-- Runs of small programs, worked out by hand: blocks and jumps.
use Rattle.std.proofs.Common.{◌≡◌, refl, ℕ, ℤ, pos, negsuc, List, [], ◌∷◌, codes, Some, None}
use Rattle.std.specs.Fmt.{digits}
use Rattle.vb_tree.specs.BoundTree.{integer, long, currency, variant}
use Rattle.vb_tree.specs.declared.expression.BinOp.TheVariants as b
use Rattle.vb_tree.specs.declared.form_parts.ExitKind.TheVariants as leaving
use Rattle.vb_tree.specs.declared.value.Value6.TheVariants as v
use Rattle.vb_tree.specs.Tree as source
use Rattle.bound_tree.specs.declared.expression.Origin.TheVariants.{Literal}
use Rattle.bound_tree.specs.Tree.{Expr, Line, typed, constant, binary, convert}
use Rattle.vb6_run.specs.Runnables.{Runnable}
use Rattle.vb6_run.proofs.Samples.{local, main_alone, code, word, lets, prints, jumps, var, num, int, text, op, test, ended, raised, out_of_steps, left, ran, line_text}

-- two Longs i and s
abbrev i : Expr
i = var 0 long

abbrev s : Expr
s = var 1 long

abbrev with_longs : List Line → Runnable
with_longs lines = main_alone (local 0 long ∷ local 0 long ∷ []) lines

abbrev says : List ℕ → Line
says t = prints (text t ∷ [])

abbrev one_by_zero : Expr
one_by_zero = op b.IntDiv (num (pos 1)) (num (pos 0))

-- ---- `For i = 1 To 3`, `s = s + i`, `Next`, `Debug.Print s; i`: the entry, the head, three times the body and Next, and the print

abbrev for_up : List Line
for_up =
    code (source.for_head word word word None) (i ∷ num (pos 1) ∷ num (pos 3) ∷ [])
    ∷ lets s (op b.Add s i)
    ∷ code (source.next None) []
    ∷ prints (s ∷ i ∷ [])
    ∷ []

sum_of_three : ran (with_longs for_up) 9 ≡ ended (line_text (codes " 6  4 ") ∷ [])
unfolding digits
sum_of_three = refl

one_step_less : ran (with_longs for_up) 8 ≡ out_of_steps []
one_step_less = refl

-- ---- `For i = 5 To 1 Step -2`, `Debug.Print i`, `Next`

abbrev for_down : List Line
for_down =
    code (source.for_head word word word (Some word)) (i ∷ num (pos 5) ∷ num (pos 1) ∷ num (negsuc 1) ∷ [])
    ∷ prints (i ∷ [])
    ∷ code (source.next None) []
    ∷ []

counts_down : ran (with_longs for_down) 20 ≡ ended (line_text (codes " 5 ") ∷ line_text (codes " 3 ") ∷ line_text (codes " 1 ") ∷ [])
unfolding digits
counts_down = refl

-- ---- the limit is kept: `s = 2`, `For i = 1 To s`, `s = 0`, `Next`, `Debug.Print i`

abbrev for_kept : List Line
for_kept =
    lets s (num (pos 2))
    ∷ code (source.for_head word word word None) (i ∷ num (pos 1) ∷ s ∷ [])
    ∷ lets s (num (pos 0))
    ∷ code (source.next None) []
    ∷ prints (i ∷ [])
    ∷ []

limit_is_kept : ran (with_longs for_kept) 20 ≡ ended (line_text (codes " 3 ") ∷ [])
unfolding digits
limit_is_kept = refl

-- a loop that is over before it began leaves its first value: `For i = 2 To 1`
abbrev for_none : List Line
for_none =
    code (source.for_head word word word None) (i ∷ num (pos 2) ∷ num (pos 1) ∷ [])
    ∷ says (codes "in")
    ∷ code (source.next None) []
    ∷ prints (i ∷ [])
    ∷ []

no_round : ran (with_longs for_none) 3 ≡ ended (line_text (codes " 2 ") ∷ [])
unfolding digits
no_round = refl

-- ---- overflow at Next: `For k = 32767 To 32767` with an Integer

abbrev for_past : Runnable
for_past = main_alone (local 0 integer ∷ []) (
    code (source.for_head word word word None) (var 0 integer ∷ int (pos 32767) ∷ int (pos 32767) ∷ [])
    ∷ code (source.next None) []
    ∷ []
    )

overflow_at_next : ran for_past 20 ≡ raised [] 6
overflow_at_next = refl

-- ---- a Next whose For never began: `GoTo 10`, `For i = 1 To 2`, `10`, `Next`

abbrev next_alone : List Line
next_alone =
    code (source.goto (jumps 10)) []
    ∷ code (source.for_head word word word None) (i ∷ num (pos 1) ∷ num (pos 2) ∷ [])
    ∷ code (source.label (jumps 10)) []
    ∷ code (source.next None) []
    ∷ []

nothing_is_kept : ran (with_longs next_alone) 20 ≡ left []
nothing_is_kept = refl

-- ---- `s = 2`, `If s = 1 Then`, `ElseIf s = 2 Then`, `Else`, `End If`, each with a print

abbrev ifs : List Line
ifs =
    lets s (num (pos 2))
    ∷ code (source.if_head word) (test b.Equal s (num (pos 1)) ∷ [])
    ∷ says (codes "one")
    ∷ code (source.else_if word) (test b.Equal s (num (pos 2)) ∷ [])
    ∷ says (codes "two")
    ∷ code source.else_line []
    ∷ says (codes "else")
    ∷ code source.end_if []
    ∷ says (codes "end")
    ∷ []

second_branch : ran (with_longs ifs) 7 ≡ ended (line_text (codes "two") ∷ line_text (codes "end") ∷ [])
second_branch = refl

end_if_takes_a_step : ran (with_longs ifs) 6 ≡ out_of_steps (line_text (codes "two") ∷ [])
end_if_takes_a_step = refl

-- `If s = 1 Then Debug.Print "one" Else Debug.Print "other"`
abbrev if_on_one_line : List Line
if_on_one_line =
    code (source.line_if word) (test b.Equal s (num (pos 1)) ∷ [])
    ∷ says (codes "one")
    ∷ code source.else_line []
    ∷ says (codes "other")
    ∷ code source.end_if []
    ∷ []

other_branch : ran (with_longs if_on_one_line) 20 ≡ ended (line_text (codes "other") ∷ [])
other_branch = refl

-- ---- `s = 3`, `Select Case s`, `Case 5 To 1 \ 0`, `Case Is < 4, 1 \ 0`, `Case Else`: the upper bound isn't evaluated, nor the last item

abbrev choices : (low : ℤ) → List Line
choices low =
    lets s (num (pos 3))
    ∷ code (source.select word) (s ∷ [])
    ∷ says (codes "before the first Case")
    ∷ code (source.case_line (source.case_range word word ∷ [])) (num low ∷ one_by_zero ∷ [])
    ∷ says (codes "range")
    ∷ code (source.case_line (source.case_is b.Less word ∷ source.case_value word ∷ [])) (num (pos 4) ∷ one_by_zero ∷ [])
    ∷ says (codes "less")
    ∷ code source.case_else []
    ∷ says (codes "else")
    ∷ code source.end_select []
    ∷ []

first_that_fits : ran (with_longs (choices (pos 5))) 20 ≡ ended (line_text (codes "less") ∷ [])
first_that_fits = refl

upper_bound_fails : ran (with_longs (choices (pos 1))) 20 ≡ raised [] 11
upper_bound_fails = refl

-- ---- loops: `Do`, `s = s + 1`, `Loop Until s = 3`; `While s < 5`, `s = s + 1`, `Wend`; `Do While`, `Exit Do`, `Loop`; `Do Until`, `Loop`

abbrev more : Line
more = lets s (op b.Add s (num (pos 1)))

abbrev loops : List Line
loops =
    code source.do_head [] ∷ more ∷ code (source.loop_until word) (test b.Equal s (num (pos 3)) ∷ []) ∷ prints (s ∷ [])
    ∷ code (source.while_head word) (test b.Less s (num (pos 5)) ∷ []) ∷ more ∷ code source.wend [] ∷ prints (s ∷ [])
    ∷ code (source.do_while word) (test b.Less s (num (pos 9)) ∷ []) ∷ more ∷ code (source.exit leaving.Do) [] ∷ code source.loop [] ∷ prints (s ∷ [])
    ∷ code (source.do_until word) (test b.Greater s (num (pos 7)) ∷ []) ∷ more ∷ code source.loop [] ∷ prints (s ∷ [])
    ∷ code source.do_head [] ∷ more ∷ code (source.loop_while word) (test b.Less s (num (pos 10)) ∷ []) ∷ prints (s ∷ [])
    ∷ []

loops_end : ran (with_longs loops) 60
    ≡ ended (line_text (codes " 3 ") ∷ line_text (codes " 5 ") ∷ line_text (codes " 6 ") ∷ line_text (codes " 8 ") ∷ line_text (codes " 10 ") ∷ [])
unfolding digits
loops_end = refl

-- ---- Exit For goes behind the Next, Exit Sub to the end

abbrev exits : List Line
exits =
    code (source.for_head word word word None) (i ∷ num (pos 1) ∷ num (pos 3) ∷ [])
    ∷ code (source.exit leaving.For) []
    ∷ code (source.next None) []
    ∷ prints (i ∷ [])
    ∷ code (source.exit leaving.Sub) []
    ∷ says (codes "never")
    ∷ []

both_exits : ran (with_longs exits) 20 ≡ ended (line_text (codes " 1 ") ∷ [])
unfolding digits
both_exits = refl

-- ---- a line of a form that isn't translated

opaque_line : ran (with_longs (says (codes "first") ∷ code (source.opaque []) [] ∷ [])) 20 ≡ left (line_text (codes "first") ∷ [])
opaque_line = refl

-- ---- `s = &H7FFFFFFF`, `s = s + 1`

overflow : ran (with_longs (lets s (num (pos 2147483647)) ∷ more ∷ [])) 20 ≡ raised [] 6
overflow = refl

-- ---- the sum of two Variants of 32767 and 1 goes on to a Long, where Integers overflow

abbrev in_variant : Expr → Expr
in_variant e = typed variant (convert variant e)

variants_go_on : ran (with_longs (prints (typed variant (binary b.Add (in_variant (int (pos 32767))) (in_variant (int (pos 1)))) ∷ []) ∷ [])) 20
    ≡ ended (line_text (codes " 32768 ") ∷ [])
unfolding digits
variants_go_on = refl

integers_overflow : ran (with_longs (prints (typed integer (binary b.Add (int (pos 32767)) (int (pos 1))) ∷ []) ∷ [])) 20 ≡ raised [] 6
integers_overflow = refl

-- ---- Imp on Variants makes its Not first: a Currency of 3000000000 is no Long, before the right operand divides by 0

abbrev imp : (left : ℤ) → Expr
imp z = typed variant (binary b.Imp (in_variant (typed currency (constant (v.Cur z) Literal))) (in_variant one_by_zero))

not_comes_first : ran (with_longs (prints (imp (pos 30000000000000) ∷ []) ∷ [])) 20 ≡ raised [] 6
not_comes_first = refl

right_operand_comes_later : ran (with_longs (prints (imp (pos 30000) ∷ []) ∷ [])) 20 ≡ raised [] 11
right_operand_comes_later = refl
