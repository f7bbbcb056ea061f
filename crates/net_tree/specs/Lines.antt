-- How the lines of a procedure are written, and which can be.
use Rattle.std.specs.Prelude.{ℕ, Bool, true, false, ◌&&◌, ◌++◌, List, [], ◌∷◌, map, codes, Option, Some, None}
use Rattle.std.specs.List.{list_all}
use Rattle.net_tree.specs.declared.expression.NetBin.{NetBin}
use Rattle.net_tree.specs.declared.expression.NetBin.TheVariants as op
use Rattle.net_tree.specs.declared.line.NetExit.{NetExit}
use Rattle.net_tree.specs.declared.line.NetExit.TheVariants as leaving
use Rattle.net_tree.specs.Tree.{CaseItem, Exp, Line, ReDimItem, assign, call, call_of, case_else, case_is, case_line, case_range, case_value, comment, do_head, do_until, do_while, else_if, else_line, end_if, end_select, end_while, end_with, exit, for_head, goto, if_head, label, loop, loop_until, loop_while, next, on_error_goto, on_error_goto_zero, on_error_resume_next, redim, resume, resume_at, resume_next, select, while_head, with_head}
use Rattle.net_tree.specs.Blocks.{role_of, depth_at, depth_behind}
use Rattle.net_tree.specs.Spelling.{at_depth, separated, label_text, is_label, is_handler_label}
use Rattle.net_tree.specs.Comments.{comment_text, is_comment}
use Rattle.net_tree.specs.Expressions.{exp_text, arguments_text, sign_text, is_writable_whole}

abbrev pub case_item_text : CaseItem → List ℕ
case_item_text (case_value e) = exp_text e
case_item_text (case_range a b) = exp_text a ++ codes " To " ++ exp_text b
case_item_text (case_is o e) = codes "Is " ++ sign_text o ++ codes " " ++ exp_text e

abbrev pub redim_item_text : ReDimItem → List ℕ
redim_item_text r = exp_text r.array ++ arguments_text r.bounds

abbrev pub step_text : Option Exp → List ℕ
step_text None = []
step_text (Some e) = codes " Step " ++ exp_text e

abbrev pub preserve_text : Bool → List ℕ
preserve_text true = codes "ReDim Preserve "
preserve_text false = codes "ReDim "

abbrev pub exit_text : NetExit → List ℕ
exit_text leaving.Sub = codes "Exit Sub"
exit_text leaving.Function = codes "Exit Function"
exit_text leaving.Property = codes "Exit Property"
exit_text leaving.For = codes "Exit For"
exit_text leaving.Do = codes "Exit Do"

abbrev pub line_text : Line → List ℕ
line_text (comment units) = comment_text units
line_text (assign target value) = exp_text target ++ codes " = " ++ exp_text value
line_text (call callee arguments) = exp_text callee ++ arguments_text arguments
line_text (if_head condition) = codes "If " ++ exp_text condition ++ codes " Then"
line_text (else_if condition) = codes "ElseIf " ++ exp_text condition ++ codes " Then"
line_text else_line = codes "Else"
line_text end_if = codes "End If"
line_text (select value) = codes "Select Case " ++ exp_text value
line_text (case_line items) = codes "Case " ++ separated (codes ", ") (map case_item_text items)
line_text case_else = codes "Case Else"
line_text end_select = codes "End Select"
line_text (for_head counter from to step) =
    codes "For " ++ exp_text counter ++ codes " = " ++ exp_text from ++ codes " To " ++ exp_text to ++ step_text step
line_text next = codes "Next"
line_text do_head = codes "Do"
line_text (do_while condition) = codes "Do While " ++ exp_text condition
line_text (do_until condition) = codes "Do Until " ++ exp_text condition
line_text loop = codes "Loop"
line_text (loop_while condition) = codes "Loop While " ++ exp_text condition
line_text (loop_until condition) = codes "Loop Until " ++ exp_text condition
line_text (while_head condition) = codes "While " ++ exp_text condition
line_text end_while = codes "End While"
line_text (with_head object) = codes "With " ++ exp_text object
line_text end_with = codes "End With"
line_text (goto l) = codes "GoTo " ++ label_text l
line_text (label l) = label_text l ++ codes ":"
line_text (on_error_goto l) = codes "On Error GoTo " ++ label_text l
line_text on_error_goto_zero = codes "On Error GoTo 0"
line_text on_error_resume_next = codes "On Error Resume Next"
line_text resume = codes "Resume"
line_text resume_next = codes "Resume Next"
line_text (resume_at l) = codes "Resume " ++ label_text l
line_text (exit what) = exit_text what
line_text (redim preserve items) = preserve_text preserve ++ separated (codes ", ") (map redim_item_text items)

-- lines of which the first stands at a nesting depth, if it parts and closes no block
abbrev pub lines_text : ℕ → List Line → List ℕ
lines_text depth [] = []
lines_text depth (l ∷ lines) = at_depth (depth_at (role_of l) depth) (line_text l) ++ lines_text (depth_behind (role_of l) depth) lines

abbrev pub is_comparison : NetBin → Bool
is_comparison op.Equal = true
is_comparison op.NotEqual = true
is_comparison op.Less = true
is_comparison op.Greater = true
is_comparison op.LessEqual = true
is_comparison op.GreaterEqual = true
is_comparison _ = false

abbrev pub is_writable_case : CaseItem → Bool
is_writable_case (case_value e) = is_writable_whole e
is_writable_case (case_range a b) = is_writable_whole a && is_writable_whole b
is_writable_case (case_is o e) = is_comparison o && is_writable_whole e

abbrev pub is_writable_redim : ReDimItem → Bool
is_writable_redim r = is_writable_whole (call_of r.array r.bounds)

abbrev pub is_writable_option : Option Exp → Bool
is_writable_option None = true
is_writable_option (Some e) = is_writable_whole e

abbrev pub is_some_item : {A : Type 0} → List A → Bool
is_some_item [] = false
is_some_item (x ∷ xs) = true

-- A Case has an item and a ReDim an array, and no error is sent to the label 0.
abbrev pub is_writable_line : Line → Bool
is_writable_line (comment units) = is_comment units
is_writable_line (assign target value) = is_writable_whole target && is_writable_whole value
is_writable_line (call callee arguments) = is_writable_whole (call_of callee arguments)
is_writable_line (if_head condition) = is_writable_whole condition
is_writable_line (else_if condition) = is_writable_whole condition
is_writable_line else_line = true
is_writable_line end_if = true
is_writable_line (select value) = is_writable_whole value
is_writable_line (case_line items) = is_some_item items && list_all is_writable_case items
is_writable_line case_else = true
is_writable_line end_select = true
is_writable_line (for_head counter from to step) = is_writable_whole counter && is_writable_whole from && is_writable_whole to && is_writable_option step
is_writable_line next = true
is_writable_line do_head = true
is_writable_line (do_while condition) = is_writable_whole condition
is_writable_line (do_until condition) = is_writable_whole condition
is_writable_line loop = true
is_writable_line (loop_while condition) = is_writable_whole condition
is_writable_line (loop_until condition) = is_writable_whole condition
is_writable_line (while_head condition) = is_writable_whole condition
is_writable_line end_while = true
is_writable_line (with_head object) = is_writable_whole object
is_writable_line end_with = true
is_writable_line (goto l) = is_label l
is_writable_line (label l) = is_label l
is_writable_line (on_error_goto l) = is_handler_label l
is_writable_line on_error_goto_zero = true
is_writable_line on_error_resume_next = true
is_writable_line resume = true
is_writable_line resume_next = true
is_writable_line (resume_at l) = is_label l
is_writable_line (exit what) = true
is_writable_line (redim preserve items) = is_some_item items && list_all is_writable_redim items
