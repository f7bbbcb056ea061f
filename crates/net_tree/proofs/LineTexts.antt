-- What lines are written as.
use Rattle.std.proofs.Common.{◌≡◌, ℕ, true, false, pos, negsuc, List, [], ◌∷◌, codes, refl}
use Rattle.std.specs.Prelude.{Some, None}
use Rattle.std.specs.Char.{encode_utf8}
use Rattle.std.specs.Fmt.{digits}
use Rattle.net_tree.specs.declared.declaration.NetClose.TheVariants as close
use Rattle.net_tree.specs.declared.declaration.NetVisibility.TheVariants.{Public}
use Rattle.net_tree.specs.declared.expression.NetBin.TheVariants as op
use Rattle.net_tree.specs.declared.line.NetExit.TheVariants as leaving
use Rattle.net_tree.specs.declared.line.NetLabel.TheVariants.{Word, Number}
use Rattle.net_tree.specs.Types as ty
use Rattle.net_tree.specs.Tree.{Exp, Procedure, assign, case_else, case_is, case_line, case_range, case_value, comment, do_head, do_until, do_while, else_if, else_line, end_if, end_select, end_while, end_with, exit, field, field_comment, for_head, get_part, set_part, goto, if_head, integer, label, lit, loop, loop_until, loop_while, new_array, next, next_exp, no_exps, on_error_goto, on_error_goto_zero, on_error_resume_next, path, property, redim, resume, resume_at, resume_next, select, structure, while_head, with_head}
use Rattle.net_tree.specs.Spelling.{is_bracketed}
use Rattle.net_tree.specs.Lines.{lines_text}
use Rattle.net_tree.specs.Declarations.{member_text}
use Rattle.net_tree.proofs.WrittenLines.{text_of}

abbrev named : List ℕ → Exp
named name = path (name ∷ [])

abbrev number : ℕ → Exp
number n = lit (integer (pos n) false)

-- branches and counted loops
counted : lines_text 2 (if_head (named (codes "a")) ∷ for_head (named (codes "i")) (number 1) (named (codes "n")) None ∷ exit leaving.For ∷ next ∷ else_if (named (codes "b")) ∷ for_head (named (codes "i")) (number 1) (named (codes "n")) (Some (number 2)) ∷ next ∷ else_line ∷ end_if ∷ [])
    ≡ text_of (codes "        If a Then" ∷ codes "            For i = 1 To n" ∷ codes "                Exit For" ∷ codes "            Next" ∷ codes "        ElseIf b Then" ∷ codes "            For i = 1 To n Step 2" ∷ codes "            Next" ∷ codes "        Else" ∷ codes "        End If" ∷ [])
unfolding digits is_bracketed
counted = refl

-- loops by a condition
looped : lines_text 2 (do_head ∷ exit leaving.Do ∷ loop_while (named (codes "c")) ∷ do_while (named (codes "a")) ∷ do_until (named (codes "b")) ∷ loop ∷ loop_until (named (codes "d")) ∷ while_head (named (codes "e")) ∷ end_while ∷ [])
    ≡ text_of (codes "        Do" ∷ codes "            Exit Do" ∷ codes "        Loop While c" ∷ codes "        Do While a" ∷ codes "            Do Until b" ∷ codes "            Loop" ∷ codes "        Loop Until d" ∷ codes "        While e" ∷ codes "        End While" ∷ [])
unfolding is_bracketed
looped = refl

-- Select, With, and a comment of é and a character of two units
selected : lines_text 1 (select (named (codes "a")) ∷ case_line (case_value (number 1) ∷ case_range (number 3) (number 5) ∷ case_is op.GreaterEqual (number 9) ∷ []) ∷ comment (0xE9 ∷ 0xD83D ∷ 0xDE00 ∷ []) ∷ case_else ∷ with_head (named (codes "c")) ∷ end_with ∷ end_select ∷ [])
    ≡ text_of (codes "    Select Case a" ∷ codes "    Case 1, 3 To 5, Is >= 9" ∷ (32 ∷ 32 ∷ 32 ∷ 32 ∷ 32 ∷ 32 ∷ 32 ∷ 32 ∷ 39 ∷ 0xC3 ∷ 0xA9 ∷ 0xF0 ∷ 0x9F ∷ 0x98 ∷ 0x80 ∷ []) ∷ codes "    Case Else" ∷ codes "        With c" ∷ codes "        End With" ∷ codes "    End Select" ∷ [])
unfolding digits is_bracketed encode_utf8
selected = refl

-- jumps, labels and errors
jumped : lines_text 0 (goto (Word (codes "Done")) ∷ label (Word (codes "Next")) ∷ label (Number 10) ∷ on_error_goto (Word (codes "Fail")) ∷ on_error_goto_zero ∷ on_error_resume_next ∷ resume ∷ resume_next ∷ resume_at (Number 10) ∷ exit leaving.Sub ∷ exit leaving.Function ∷ exit leaving.Property ∷ [])
    ≡ text_of (codes "GoTo Done" ∷ codes "[Next]:" ∷ codes "10:" ∷ codes "On Error GoTo Fail" ∷ codes "On Error GoTo 0" ∷ codes "On Error Resume Next" ∷ codes "Resume" ∷ codes "Resume Next" ∷ codes "Resume 10" ∷ codes "Exit Sub" ∷ codes "Exit Function" ∷ codes "Exit Property" ∷ [])
unfolding digits is_bracketed
jumped = refl

-- arrays that are made anew
resized : lines_text 0 (redim false (record { array = named (codes "a"); bounds = next_exp (number 3) no_exps } ∷ record { array = named (codes "b"); bounds = next_exp (number 1) (next_exp (number 2) no_exps) } ∷ []) ∷ redim true (record { array = named (codes "a"); bounds = next_exp (number 3) no_exps } ∷ []) ∷ assign (named (codes "a")) (new_array ty.short (next_exp (lit (integer (negsuc 0) false)) no_exps)) ∷ [])
    ≡ text_of (codes "ReDim a(3), b(1, 2)" ∷ codes "ReDim Preserve a(3)" ∷ codes "a = New Short(-1) {}" ∷ [])
unfolding digits is_bracketed
resized = refl

abbrev empty_get : Procedure
empty_get = record { head = get_part; prologue = []; lines = []; close = close.EndGet }

abbrev empty_set : Procedure
empty_set = record { head = set_part (codes "x") ty.integer; prologue = []; lines = []; close = close.EndSet }

-- a property without a part that sets
read_only : member_text (property (record { visibility = Public; name = codes "Value"; params = []; ty = ty.integer; get_comments = []; get = Some empty_get; set_comments = []; set = None }))
    ≡ text_of (codes "    Public ReadOnly Property Value() As Integer" ∷ codes "        Get" ∷ codes "        End Get" ∷ codes "    End Property" ∷ [])
unfolding is_bracketed
read_only = refl

-- a property with a comment before its second part
with_comment : member_text (property (record { visibility = Public; name = codes "Value"; params = []; ty = ty.integer; get_comments = []; get = Some empty_get; set_comments = codes "a" ∷ []; set = Some empty_set }))
    ≡ text_of (codes "    Public Property Value() As Integer" ∷ codes "        Get" ∷ codes "        End Get" ∷ codes "        'a" ∷ codes "        Set(ByVal x As Integer)" ∷ codes "        End Set" ∷ codes "    End Property" ∷ [])
unfolding is_bracketed encode_utf8
with_comment = refl

-- a structure with an array of two dimensions
structured : member_text (structure (record { name = codes "Line"; fields = field_comment (codes "a") ∷ field (codes "Items") (ty.array_of ty.str 2) ∷ [] }))
    ≡ text_of (codes "    Public Structure Line" ∷ codes "        'a" ∷ codes "        Public Items(,) As String" ∷ codes "    End Structure" ∷ [])
unfolding is_bracketed encode_utf8
structured = refl
