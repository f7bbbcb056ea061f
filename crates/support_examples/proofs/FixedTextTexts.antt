-- What the functions of FixedTexts are written as.
use Rattle.std.proofs.Common.{◌≡◌, [], ◌∷◌, codes, refl}
use Rattle.std.specs.Fmt.{digits}
use Rattle.net_tree.specs.Spelling.{is_bracketed}
use Rattle.net_tree.specs.Declarations.{procedure_text}
use Rattle.net_tree.proofs.WrittenLines.{text_of}
use Rattle.support_text.specs.FixedTexts.{the_fix, the_fix_new}

fix_text : procedure_text 1 the_fix ≡ text_of (codes "    Public Function Fix(ByVal s As String, ByVal n As Integer) As String" ∷ codes "        Fix = Microsoft.VisualBasic.Strings.Left(s, n).PadRight(n)" ∷ codes "    End Function" ∷ [])
unfolding digits is_bracketed
fix_text = refl

fix_new_text : procedure_text 1 the_fix_new ≡ text_of (codes "    Public Function FixNew(ByVal n As Integer) As String" ∷ codes "        FixNew = New System.String(Microsoft.VisualBasic.Strings.ChrW(0), n)" ∷ codes "    End Function" ∷ [])
unfolding digits is_bracketed
fix_new_text = refl
