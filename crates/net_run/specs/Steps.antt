-- What each written line is to the blocks round it, and which line is a label.
use Rattle.std.specs.Prelude.{pos, Bool, true, false, List, map, Option, Some, None}
use Rattle.vb_tree.specs.declared.block.BlockKind.TheVariants.{If, Select, For, Do, While, With}
use Rattle.vb_tree.specs.declared.form_parts.ExitKind.{ExitKind}
use Rattle.vb_tree.specs.declared.form_parts.ExitKind.TheVariants as leaving
use Rattle.bound_tree.specs.Labels.{Label, word, number}
use Rattle.bound_tree.specs.Targets.{Step, plain, opens, parts, closes}
use Rattle.net_tree.specs.declared.line.NetExit.{NetExit}
use Rattle.net_tree.specs.declared.line.NetExit.TheVariants as exits
use Rattle.net_tree.specs.declared.line.NetLabel.{NetLabel}
use Rattle.net_tree.specs.declared.line.NetLabel.TheVariants as mark
use Rattle.net_tree.specs.Tree.{Line, comment, assign, call, if_head, else_if, else_line, end_if, select, case_line, case_else, end_select, for_head, next, do_head, do_while, do_until, loop, loop_while, loop_until, while_head, end_while, with_head, end_with, goto, label, on_error_goto, on_error_goto_zero, on_error_resume_next, resume, resume_next, resume_at, exit, redim}

abbrev pub step_of : Line → Step
step_of (comment units) = plain
step_of (assign target value) = plain
step_of (call callee args) = plain
step_of (if_head condition) = opens If true
step_of (else_if condition) = parts If true
step_of else_line = parts If false
step_of end_if = closes If
step_of (select value) = opens Select false
step_of (case_line items) = parts Select true
step_of case_else = parts Select false
step_of end_select = closes Select
step_of (for_head counter start limit step) = opens For true
step_of next = closes For
step_of do_head = opens Do false
step_of (do_while condition) = opens Do true
step_of (do_until condition) = opens Do true
step_of loop = closes Do
step_of (loop_while condition) = closes Do
step_of (loop_until condition) = closes Do
step_of (while_head condition) = opens While true
step_of end_while = closes While
step_of (with_head object) = opens With false
step_of end_with = closes With
step_of (goto l) = plain
step_of (label l) = plain
step_of (on_error_goto l) = plain
step_of on_error_goto_zero = plain
step_of on_error_resume_next = plain
step_of resume = plain
step_of resume_next = plain
step_of (resume_at l) = plain
step_of (exit what) = plain
step_of (redim preserve items) = plain

-- whether a line is the head or a closing line of a block that computes something
abbrev pub tests : Line → Bool
tests (comment units) = false
tests (assign target value) = false
tests (call callee args) = false
tests (if_head condition) = true
tests (else_if condition) = true
tests else_line = false
tests end_if = false
tests (select value) = true
tests (case_line items) = true
tests case_else = false
tests end_select = false
tests (for_head counter start limit step) = true
tests next = true
tests do_head = false
tests (do_while condition) = true
tests (do_until condition) = true
tests loop = false
tests (loop_while condition) = true
tests (loop_until condition) = true
tests (while_head condition) = true
tests end_while = false
tests (with_head object) = true
tests end_with = false
tests (goto l) = false
tests (label l) = false
tests (on_error_goto l) = false
tests on_error_goto_zero = false
tests on_error_resume_next = false
tests resume = false
tests resume_next = false
tests (resume_at l) = false
tests (exit what) = false
tests (redim preserve items) = false

abbrev pub label_of : NetLabel → Label
label_of (mark.Word name) = word name
label_of (mark.Number k) = number (pos k)

-- the label that a line is
abbrev pub label_in : Line → Option Label
label_in (comment units) = None
label_in (assign target value) = None
label_in (call callee args) = None
label_in (if_head condition) = None
label_in (else_if condition) = None
label_in else_line = None
label_in end_if = None
label_in (select value) = None
label_in (case_line items) = None
label_in case_else = None
label_in end_select = None
label_in (for_head counter start limit step) = None
label_in next = None
label_in do_head = None
label_in (do_while condition) = None
label_in (do_until condition) = None
label_in loop = None
label_in (loop_while condition) = None
label_in (loop_until condition) = None
label_in (while_head condition) = None
label_in end_while = None
label_in (with_head object) = None
label_in end_with = None
label_in (goto l) = None
label_in (label l) = Some (label_of l)
label_in (on_error_goto l) = None
label_in on_error_goto_zero = None
label_in on_error_resume_next = None
label_in resume = None
label_in resume_next = None
label_in (resume_at l) = None
label_in (exit what) = None
label_in (redim preserve items) = None

abbrev pub labels : List Line → List (Option Label)
labels lines = map label_in lines

-- an Exit by its kind, and whether it leaves the procedure
abbrev pub exit_kind : NetExit → ExitKind
exit_kind exits.Sub = leaving.Sub
exit_kind exits.Function = leaving.Function
exit_kind exits.Property = leaving.Property
exit_kind exits.For = leaving.For
exit_kind exits.Do = leaving.Do

abbrev pub leaves : NetExit → Bool
leaves exits.Sub = true
leaves exits.Function = true
leaves exits.Property = true
leaves exits.For = false
leaves exits.Do = false
