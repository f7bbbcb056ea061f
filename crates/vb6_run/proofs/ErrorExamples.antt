-- Runs of small programs, worked out by hand: errors and their handling.
use Rattle.std.proofs.Common.{◌≡◌, refl, ℕ, ℤ, pos, List, [], ◌∷◌, codes}
use Rattle.std.specs.Fmt.{digits}
use Rattle.vb_tree.specs.BoundTree.{long, nothing}
use Rattle.vb_tree.specs.declared.expression.BinOp.TheVariants as b
use Rattle.vb_tree.specs.declared.form_parts.ExitKind.TheVariants as leaving
use Rattle.vb_tree.specs.Tree as source
use Rattle.bound_tree.specs.Tree.{Expr, Line, typed, err_number, err_raise, err_clear, no_object, no_passed}
use Rattle.vb6_run.specs.Runnables.{Runnable}
use Rattle.vb6_run.proofs.Samples.{local, main_alone, loud, program, sub, code, word, lets, calls, prints, jumps, var, num, text, op, test, called, ended, raised, left, ran, line_text}

abbrev x : Expr
x = var 0 long

abbrev with_long : List Line → Runnable
with_long lines = main_alone (local 0 long ∷ []) lines

abbrev fails : Line
fails = lets x (op b.IntDiv (num (pos 1)) (num (pos 0)))

abbrev says : List ℕ → Line
says t = prints (text t ∷ [])

abbrev says_number : Line
says_number = prints (typed long err_number ∷ [])

abbrev raise : ℤ → Line
raise z = calls (typed nothing (err_raise (num z)))

abbrev on_error : Line
on_error = code (source.on_error_goto (jumps 10)) []

abbrev ten : Line
ten = code (source.label (jumps 10)) []

-- ---- a handler that goes on behind the error

abbrev handler : List Line
handler =
    on_error ∷ fails ∷ says (codes "after") ∷ says_number ∷ code (source.exit leaving.Sub) []
    ∷ ten ∷ says_number ∷ code source.resume_next [] ∷ []

resumes_behind : ran (with_long handler) 20 ≡ ended (line_text (codes " 11 ") ∷ line_text (codes "after") ∷ line_text (codes " 0 ") ∷ [])
unfolding digits
resumes_behind = refl

-- ---- Resume does the line again: `x = 1 \ y`, and the handler sets y

abbrev again : Runnable
again = main_alone (local 0 long ∷ local 0 long ∷ []) (
    on_error
    ∷ lets x (op b.IntDiv (num (pos 6)) (var 1 long))
    ∷ prints (x ∷ [])
    ∷ code (source.exit leaving.Sub) []
    ∷ ten
    ∷ lets (var 1 long) (num (pos 2))
    ∷ code source.resume []
    ∷ []
    )

line_is_done_again : ran again 20 ≡ ended (line_text (codes " 3 ") ∷ [])
unfolding digits
line_is_done_again = refl

-- ---- Resume at a label leaves the handler: the next error is handled again

abbrev at_label : List Line
at_label =
    on_error ∷ fails ∷ ten ∷ says (codes "handled") ∷ code (source.resume_at (jumps 20)) []
    ∷ code (source.label (jumps 20)) [] ∷ says (codes "on") ∷ []

resumes_at_a_label : ran (with_long at_label) 20 ≡ ended (line_text (codes "handled") ∷ line_text (codes "on") ∷ [])
resumes_at_a_label = refl

-- ---- Resume without an error raises 20

resume_alone : ran (with_long (code source.resume [] ∷ [])) 20 ≡ raised [] 20
resume_alone = refl

-- ---- an error while one is handled leaves, and On Error leaves the active flag as it is

in_a_handler : ran (with_long (on_error ∷ fails ∷ ten ∷ raise (pos 5) ∷ [])) 20 ≡ raised [] 5
in_a_handler = refl

flag_stays : ran (with_long (on_error ∷ fails ∷ ten ∷ code source.on_error_resume_next [] ∷ fails ∷ [])) 20 ≡ raised [] 11
flag_stays = refl

-- ---- On Error Resume Next

abbrev over : Line
over = code source.on_error_resume_next []

goes_on_behind : ran (with_long (over ∷ fails ∷ says_number ∷ [])) 20 ≡ ended (line_text (codes " 11 ") ∷ [])
unfolding digits
goes_on_behind = refl

-- after an error at a head nothing says where to go on
abbrev at_head : List Line
at_head = over ∷ code (source.if_head word) (test b.Equal (op b.IntDiv x x) x ∷ []) ∷ code source.end_if [] ∷ []

at_a_head : ran (with_long at_head) 20 ≡ left []
at_a_head = refl

switched_off : ran (with_long (over ∷ code source.on_error_goto_zero [] ∷ fails ∷ [])) 20 ≡ raised [] 11
switched_off = refl

cleared : ran (with_long (over ∷ fails ∷ calls (typed nothing err_clear) ∷ says_number ∷ [])) 20 ≡ ended (line_text (codes " 0 ") ∷ [])
unfolding digits
cleared = refl

-- ---- Err.Raise

raises_a_number : ran (with_long (raise (pos 513) ∷ [])) 20 ≡ raised [] 513
raises_a_number = refl

no_error_number : ran (with_long (says (codes "first") ∷ raise (pos 70000) ∷ [])) 20 ≡ left (line_text (codes "first") ∷ [])
no_error_number = refl

-- ---- an error of a procedure goes to the caller, and Exit Sub clears what reaching the last line leaves

abbrev with_other : List Line → Runnable
with_other lines = loud (program (local 1 long ∷ []) [] (sub [] ∷ sub [] ∷ [])
    ((over ∷ calls (called 1 nothing no_object no_passed) ∷ says_number ∷ []) ∷ lines ∷ []))

goes_to_the_caller : ran (with_other (fails ∷ says (codes "never") ∷ [])) 20 ≡ ended (line_text (codes " 11 ") ∷ [])
unfolding digits
goes_to_the_caller = refl

left_at_the_end : ran (with_other (over ∷ fails ∷ [])) 20 ≡ ended (line_text (codes " 11 ") ∷ [])
unfolding digits
left_at_the_end = refl

cleared_by_exit : ran (with_other (over ∷ fails ∷ code (source.exit leaving.Sub) [] ∷ [])) 20 ≡ ended (line_text (codes " 0 ") ∷ [])
unfolding digits
cleared_by_exit = refl
