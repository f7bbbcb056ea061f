-- What the functions of Errors are written as.
use Rattle.std.proofs.Common.{◌≡◌, [], ◌∷◌, codes, refl}
use Rattle.std.specs.Fmt.{digits}
use Rattle.net_tree.specs.Spelling.{is_bracketed}
use Rattle.net_tree.specs.Declarations.{procedure_text}
use Rattle.net_tree.proofs.WrittenLines.{text_of}
use Rattle.support_text.specs.Errors.{the_err_number, the_raise, the_err_clear, the_not_upgraded}

err_number_text : procedure_text 1 the_err_number ≡ text_of (codes "    Public Function ErrNumber() As Integer" ∷ codes "        ErrNumber = Microsoft.VisualBasic.Information.Err().Number" ∷ codes "    End Function" ∷ [])
unfolding digits is_bracketed
err_number_text = refl

raise_text : procedure_text 1 the_raise ≡ text_of (codes "    Public Sub Raise(ByVal n As Integer)" ∷ codes "        Microsoft.VisualBasic.Information.Err().Raise(n)" ∷ codes "    End Sub" ∷ [])
unfolding digits is_bracketed
raise_text = refl

err_clear_text : procedure_text 1 the_err_clear ≡ text_of (codes "    Public Sub ErrClear()" ∷ codes "        Microsoft.VisualBasic.Information.Err().Clear()" ∷ codes "    End Sub" ∷ [])
unfolding digits is_bracketed
err_clear_text = refl

not_upgraded_text : procedure_text 1 the_not_upgraded ≡ text_of (codes "    Public Function NotUpgraded(ByVal n As Integer) As Integer" ∷ codes "        Raise((1000 + n))" ∷ codes "    End Function" ∷ [])
unfolding digits is_bracketed
not_upgraded_text = refl
