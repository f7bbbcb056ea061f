-- What the functions of VariantConversions are written as.
use Rattle.std.proofs.Common.{◌≡◌, [], ◌∷◌, codes, refl}
use Rattle.std.specs.Fmt.{digits}
use Rattle.net_tree.specs.Spelling.{is_bracketed}
use Rattle.net_tree.specs.Declarations.{procedure_text}
use Rattle.net_tree.proofs.WrittenLines.{text_of}
use Rattle.support_text.specs.VariantConversions.{the_var_str, the_var_byte, the_var_short, the_var_int, the_var_bool, the_var_cur}

var_str_text : procedure_text 1 the_var_str ≡ text_of (codes "    Public Function VarStr(ByVal v As Object) As String" ∷ codes "        If (TypeOf v Is Decimal) Then" ∷ codes "            VarStr = CurText(CDec(v))" ∷ codes "        Else" ∷ codes "            VarStr = CStr(v)" ∷ codes "        End If" ∷ codes "    End Function" ∷ [])
unfolding digits is_bracketed
var_str_text = refl

var_byte_text : procedure_text 1 the_var_byte ≡ text_of (codes "    Public Function VarByte(ByVal v As Object) As Byte" ∷ codes "        If (TypeOf v Is Boolean) Then" ∷ codes "            VarByte = CByte(CBool(v))" ∷ codes "        Else" ∷ codes "            VarByte = CByte(Num(v))" ∷ codes "        End If" ∷ codes "    End Function" ∷ [])
unfolding digits is_bracketed
var_byte_text = refl

var_short_text : procedure_text 1 the_var_short ≡ text_of (codes "    Public Function VarShort(ByVal v As Object) As Short" ∷ codes "        VarShort = CShort(Num(v))" ∷ codes "    End Function" ∷ [])
unfolding digits is_bracketed
var_short_text = refl

var_int_text : procedure_text 1 the_var_int ≡ text_of (codes "    Public Function VarInt(ByVal v As Object) As Integer" ∷ codes "        VarInt = CInt(Num(v))" ∷ codes "    End Function" ∷ [])
unfolding digits is_bracketed
var_int_text = refl

var_bool_text : procedure_text 1 the_var_bool ≡ text_of (codes "    Public Function VarBool(ByVal v As Object) As Boolean" ∷ codes "        VarBool = CBool(Num(v))" ∷ codes "    End Function" ∷ [])
unfolding digits is_bracketed
var_bool_text = refl

var_cur_text : procedure_text 1 the_var_cur ≡ text_of (codes "    Public Function VarCur(ByVal v As Object) As Decimal" ∷ codes "        VarCur = Cur(Num(v))" ∷ codes "    End Function" ∷ [])
unfolding digits is_bracketed
var_cur_text = refl
