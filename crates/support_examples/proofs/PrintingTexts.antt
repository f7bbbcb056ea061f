-- What the functions of Printing are written as.
use Rattle.std.proofs.Common.{◌≡◌, [], ◌∷◌, codes, refl}
use Rattle.std.specs.Char.{encode_utf8}
use Rattle.std.specs.Fmt.{digits}
use Rattle.net_tree.specs.Spelling.{is_bracketed}
use Rattle.net_tree.specs.Declarations.{procedure_text}
use Rattle.net_tree.proofs.WrittenLines.{text_of}
use Rattle.support_text.specs.Printing.{the_print_line, the_print_part, the_box, the_ask, the_cur_text, the_print_num, the_print_var}

print_line_text : procedure_text 1 the_print_line ≡ text_of (codes "    Public Sub PrintLine(ByVal s As String)" ∷ codes "        System.Console.WriteLine(s)" ∷ codes "    End Sub" ∷ [])
unfolding digits is_bracketed
print_line_text = refl

print_part_text : procedure_text 1 the_print_part ≡ text_of (codes "    Public Sub PrintPart(ByVal s As String)" ∷ codes "        System.Console.Write(s)" ∷ codes "    End Sub" ∷ [])
unfolding digits is_bracketed
print_part_text = refl

box_text : procedure_text 1 the_box ≡ text_of (codes "    Public Sub Box(ByVal s As String)" ∷ codes "        Microsoft.VisualBasic.Interaction.MsgBox(s)" ∷ codes "    End Sub" ∷ [])
unfolding digits is_bracketed
box_text = refl

ask_text : procedure_text 1 the_ask ≡ text_of (codes "    Public Function Ask(ByVal s As String) As String" ∷ codes "        Ask = Microsoft.VisualBasic.Interaction.InputBox(s)" ∷ codes "    End Function" ∷ [])
unfolding digits is_bracketed
ask_text = refl

cur_text_text : procedure_text 1 the_cur_text ≡ text_of (codes "    Public Function CurText(ByVal d As Decimal) As String" ∷ codes "        CurText = d.ToString(\"0.####\", System.Globalization.CultureInfo.InvariantCulture)" ∷ codes "    End Function" ∷ [])
unfolding digits is_bracketed encode_utf8
cur_text_text = refl

print_num_text : procedure_text 1 the_print_num ≡ text_of (codes "    Public Function PrintNum(ByVal d As Decimal) As String" ∷ codes "        If (d < 0D) Then" ∷ codes "            PrintNum = (CurText(d) & \" \")" ∷ codes "        Else" ∷ codes "            PrintNum = ((\" \" & CurText(d)) & \" \")" ∷ codes "        End If" ∷ codes "    End Function" ∷ [])
unfolding digits is_bracketed encode_utf8
print_num_text = refl

print_var_text : procedure_text 1 the_print_var ≡ text_of (codes "    Public Function PrintVar(ByVal v As Object) As String" ∷ codes "        If ((Rank(v) = 6) Or ((v Is Nothing) Or (TypeOf v Is Boolean))) Then" ∷ codes "            PrintVar = VarStr(v)" ∷ codes "        Else" ∷ codes "            PrintVar = PrintNum(Num(v))" ∷ codes "        End If" ∷ codes "    End Function" ∷ [])
unfolding digits is_bracketed
print_var_text = refl
