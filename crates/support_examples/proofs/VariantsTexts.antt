-- What the functions of Variants are written as.
use Rattle.std.proofs.Common.{◌≡◌, [], ◌∷◌, codes, refl}
use Rattle.std.specs.Fmt.{digits}
use Rattle.net_tree.specs.Spelling.{is_bracketed}
use Rattle.net_tree.specs.Declarations.{procedure_text}
use Rattle.net_tree.proofs.WrittenLines.{text_of}
use Rattle.support_text.specs.Variants.{the_rank, the_wider, the_num, the_fit}

rank_text : procedure_text 1 the_rank ≡ text_of (codes "    Public Function Rank(ByVal v As Object) As Integer" ∷ codes "        If (TypeOf v Is String) Then" ∷ codes "            Rank = 6" ∷ codes "        ElseIf (TypeOf v Is Decimal) Then" ∷ codes "            Rank = 5" ∷ codes "        ElseIf (TypeOf v Is Integer) Then" ∷ codes "            Rank = 4" ∷ codes "        ElseIf (TypeOf v Is Byte) Then" ∷ codes "            Rank = 2" ∷ codes "        Else" ∷ codes "            Rank = 3" ∷ codes "        End If" ∷ codes "    End Function" ∷ [])
unfolding digits is_bracketed
rank_text = refl

wider_text : procedure_text 1 the_wider ≡ text_of (codes "    Public Function Wider(ByVal a As Object, ByVal b As Object) As Integer" ∷ codes "        Wider = System.Math.Max(Rank(a), Rank(b))" ∷ codes "    End Function" ∷ [])
unfolding digits is_bracketed
wider_text = refl

num_text : procedure_text 1 the_num ≡ text_of (codes "    Public Function Num(ByVal v As Object) As Decimal" ∷ codes "        If (Rank(v) = 6) Then" ∷ codes "            Raise(13)" ∷ codes "        End If" ∷ codes "        Num = CDec(v)" ∷ codes "    End Function" ∷ [])
unfolding digits is_bracketed
num_text = refl

fit_text : procedure_text 1 the_fit ≡ text_of (codes "    Public Function Fit(ByVal d As Decimal, ByVal k As Integer) As Object" ∷ codes "        If (k = 5) Then" ∷ codes "            Fit = Cur(d)" ∷ codes "        ElseIf (((k = 2) And (d >= 0D)) And (d <= 255D)) Then" ∷ codes "            Fit = CByte(d)" ∷ codes "        ElseIf (((k < 4) And (d >= (-32768D))) And (d <= 32767D)) Then" ∷ codes "            Fit = CShort(d)" ∷ codes "        Else" ∷ codes "            Fit = CInt(d)" ∷ codes "        End If" ∷ codes "    End Function" ∷ [])
unfolding digits is_bracketed
fit_text = refl
