-- What the functions of Assignments are written as.
use Rattle.std.proofs.Common.{◌≡◌, [], ◌∷◌, codes, refl}
use Rattle.std.specs.Fmt.{digits}
use Rattle.net_tree.specs.Spelling.{is_bracketed}
use Rattle.net_tree.specs.Declarations.{procedure_text}
use Rattle.net_tree.proofs.WrittenLines.{text_of}
use Rattle.support_text.specs.Assignments.{the_put_short, the_put_boolean, the_put_byte, the_put_integer, the_put_decimal, the_put_string, the_put_object}

put_short_text : procedure_text 1 the_put_short ≡ text_of (codes "    Public Sub PutShort(ByVal v As Short, ByRef t As Short)" ∷ codes "        t = v" ∷ codes "    End Sub" ∷ [])
unfolding digits is_bracketed
put_short_text = refl

put_boolean_text : procedure_text 1 the_put_boolean ≡ text_of (codes "    Public Sub PutBoolean(ByVal v As Boolean, ByRef t As Boolean)" ∷ codes "        t = v" ∷ codes "    End Sub" ∷ [])
unfolding digits is_bracketed
put_boolean_text = refl

put_byte_text : procedure_text 1 the_put_byte ≡ text_of (codes "    Public Sub PutByte(ByVal v As Byte, ByRef t As Byte)" ∷ codes "        t = v" ∷ codes "    End Sub" ∷ [])
unfolding digits is_bracketed
put_byte_text = refl

put_integer_text : procedure_text 1 the_put_integer ≡ text_of (codes "    Public Sub PutInteger(ByVal v As Integer, ByRef t As Integer)" ∷ codes "        t = v" ∷ codes "    End Sub" ∷ [])
unfolding digits is_bracketed
put_integer_text = refl

put_decimal_text : procedure_text 1 the_put_decimal ≡ text_of (codes "    Public Sub PutDecimal(ByVal v As Decimal, ByRef t As Decimal)" ∷ codes "        t = v" ∷ codes "    End Sub" ∷ [])
unfolding digits is_bracketed
put_decimal_text = refl

put_string_text : procedure_text 1 the_put_string ≡ text_of (codes "    Public Sub PutString(ByVal v As String, ByRef t As String)" ∷ codes "        t = v" ∷ codes "    End Sub" ∷ [])
unfolding digits is_bracketed
put_string_text = refl

put_object_text : procedure_text 1 the_put_object ≡ text_of (codes "    Public Sub PutObject(ByVal v As Object, ByRef t As Object)" ∷ codes "        t = v" ∷ codes "    End Sub" ∷ [])
unfolding digits is_bracketed
put_object_text = refl
