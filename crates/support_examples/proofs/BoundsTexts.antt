-- What the functions of Bounds are written as.
use Rattle.std.proofs.Common.{◌≡◌, [], ◌∷◌, codes, refl}
use Rattle.std.specs.Fmt.{digits}
use Rattle.net_tree.specs.Spelling.{is_bracketed}
use Rattle.net_tree.specs.Declarations.{procedure_text}
use Rattle.net_tree.proofs.WrittenLines.{text_of}
use Rattle.support_text.specs.Bounds.{the_cur, the_at, the_top, the_hi, the_lo}

cur_text : procedure_text 1 the_cur ≡ text_of (codes "    Public Function Cur(ByVal d As Decimal) As Decimal" ∷ codes "        If ((d < (-922337203685477.5808D)) Or (d > 922337203685477.5807D)) Then" ∷ codes "            Raise(6)" ∷ codes "        End If" ∷ codes "        Cur = d" ∷ codes "    End Function" ∷ [])
unfolding digits is_bracketed
cur_text = refl

at_text : procedure_text 1 the_at ≡ text_of (codes "    Public Function At(ByVal i As Integer, ByVal b As Integer) As Integer" ∷ codes "        Dim d As Long = (CLng(i) - CLng(b))" ∷ codes "        If ((d < 0L) Or (d > 2147483647L)) Then" ∷ codes "            At = (-1)" ∷ codes "        Else" ∷ codes "            At = CInt(d)" ∷ codes "        End If" ∷ codes "    End Function" ∷ [])
unfolding digits is_bracketed
at_text = refl

top_text : procedure_text 1 the_top ≡ text_of (codes "    Public Function Top(ByVal h As Integer, ByVal b As Integer) As Integer" ∷ codes "        If (h < b) Then" ∷ codes "            Raise(9)" ∷ codes "        End If" ∷ codes "        Top = (h - b)" ∷ codes "    End Function" ∷ [])
unfolding digits is_bracketed
top_text = refl

hi_text : procedure_text 1 the_hi ≡ text_of (codes "    Public Function Hi(ByVal a As System.Array, ByVal d As Integer, ByVal b As Integer) As Integer" ∷ codes "        If (a.Length = 0) Then" ∷ codes "            Raise(9)" ∷ codes "        End If" ∷ codes "        Hi = (a.GetUpperBound(d) + b)" ∷ codes "    End Function" ∷ [])
unfolding digits is_bracketed
hi_text = refl

lo_text : procedure_text 1 the_lo ≡ text_of (codes "    Public Function Lo(ByVal a As System.Array, ByVal b As Integer) As Integer" ∷ codes "        If (a.Length = 0) Then" ∷ codes "            Raise(9)" ∷ codes "        End If" ∷ codes "        Lo = b" ∷ codes "    End Function" ∷ [])
unfolding digits is_bracketed
lo_text = refl
