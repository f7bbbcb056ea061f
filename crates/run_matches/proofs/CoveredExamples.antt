-- Procedures that are covered, group by group: other lines of Main in the small program.
use Rattle.std.proofs.Common.{◌≡◌, refl, pos, true, false, [], ◌∷◌, codes, List, None}
use Rattle.vb_tree.specs.BoundTree.{boolean, currency, long, nothing}
use Rattle.vb_tree.specs.declared.expression.BinOp.TheVariants as b
use Rattle.vb_tree.specs.declared.form_parts.ExitKind.TheVariants as leaving
use Rattle.vb_tree.specs.declared.form_parts.Label6.TheVariants as label6
use Rattle.vb_tree.specs.declared.value.Value6.TheVariants as v
use Rattle.vb_tree.specs.Tree as source
use Rattle.bound_tree.specs.declared.expression.Origin.TheVariants.{Literal}
use Rattle.bound_tree.specs.Tree.{Expr, typed, constant, binary, err_clear, err_raise, Line}
use Rattle.vb_tree.specs.declared.value.Value6.{Value6}
use Rattle.run_matches.specs.Covered.{covers_procedure}
use Rattle.run_matches.proofs.Samples.{any, c_of, code, program_with}

abbrev amount : Expr
amount = typed currency (constant (v.Cur (pos 80000)) Literal)

abbrev the_c : Expr
the_c = c_of currency

-- c < 8
abbrev below : Expr
below = typed boolean (binary b.Less the_c amount)

-- ---- control flow
--
--     Dim c As Currency
-- again:
--     Do While c < 8
--         c = c + 8
--         If c < 8 Then GoTo again
--         Exit Do
--     Loop

abbrev looping : List Line
looping =
    code (source.label (label6.Word (codes "again"))) []
    ∷ code (source.do_while any) (below ∷ [])
    ∷ code (source.assign any any) (the_c ∷ typed currency (binary b.Add the_c amount) ∷ [])
    ∷ code (source.line_if any) (below ∷ [])
    ∷ code (source.goto (label6.Word (codes "again"))) []
    ∷ code source.end_if []
    ∷ code (source.exit leaving.Do) []
    ∷ code source.loop []
    ∷ []

loop_covered : covers_procedure (program_with currency looping) 2 ≡ true
loop_covered = refl

--     Dim c As Long
--     For c = 1 To 3
--         Select Case c
--         Case 1, 2 To 3
--         Case Is > 3
--             Debug.Print c
--         End Select
--     Next

abbrev whole : Value6 → Expr
whole x = typed long (constant x Literal)

abbrev one : Expr
one = whole (v.Long (pos 1))

abbrev two : Expr
two = whole (v.Long (pos 2))

abbrev three : Expr
three = whole (v.Long (pos 3))

abbrev counting : List Line
counting =
    code (source.for_head any any any None) (c_of long ∷ one ∷ three ∷ [])
    ∷ code (source.select any) (c_of long ∷ [])
    ∷ code (source.case_line (source.case_value any ∷ source.case_range any any ∷ [])) (one ∷ two ∷ three ∷ [])
    ∷ code (source.case_line (source.case_is b.Greater any ∷ [])) (three ∷ [])
    ∷ code (source.debug_print [] false) (c_of long ∷ [])
    ∷ code source.end_select []
    ∷ code (source.next None) []
    ∷ []

count_covered : covers_procedure (program_with long counting) 2 ≡ true
count_covered = refl

--     Dim c As Currency
--     On Error GoTo failed
--     c = c + 8
--     Err.Raise 3
--     On Error GoTo 0
--     Exit Sub
-- failed:
--     Err.Clear
--     On Error Resume Next
--     Resume Next

abbrev handling : List Line
handling =
    code (source.on_error_goto (label6.Word (codes "failed"))) []
    ∷ code (source.assign any any) (the_c ∷ typed currency (binary b.Add the_c amount) ∷ [])
    ∷ code (source.call any) (typed nothing (err_raise three) ∷ [])
    ∷ code source.on_error_goto_zero []
    ∷ code (source.exit leaving.Sub) []
    ∷ code (source.label (label6.Word (codes "failed"))) []
    ∷ code (source.call any) (typed nothing err_clear ∷ [])
    ∷ code source.on_error_resume_next []
    ∷ code source.resume_next []
    ∷ []

handler_covered : covers_procedure (program_with currency handling) 2 ≡ true
handler_covered = refl

-- a Case of another type than its Select Case isn't
abbrev mixed : List Line
mixed =
    code (source.select any) (c_of currency ∷ []) ∷ code (source.case_line (source.case_value any ∷ [])) (one ∷ []) ∷ code source.end_select [] ∷ []

mixed_not : covers_procedure (program_with currency mixed) 2 ≡ false
mixed_not = refl
