-- What the functions of VariantOperators are written as.
use Rattle.std.proofs.Common.{◌≡◌, [], ◌∷◌, codes, refl}
use Rattle.std.specs.Fmt.{digits}
use Rattle.net_tree.specs.Spelling.{is_bracketed}
use Rattle.net_tree.specs.Declarations.{procedure_text}
use Rattle.net_tree.proofs.WrittenLines.{text_of}
use Rattle.support_text.specs.VariantOperators.{the_var_add, the_var_sub, the_var_mul, the_var_div, the_var_mod, the_var_neg, the_var_not, the_var_and, the_var_or, the_var_xor, the_var_comp}

var_add_text : procedure_text 1 the_var_add ≡ text_of (codes "    Public Function VarAdd(ByVal a As Object, ByVal b As Object) As Object" ∷ codes "        If (Wider(a, b) = 6) Then" ∷ codes "            VarAdd = (VarStr(a) & VarStr(b))" ∷ codes "        Else" ∷ codes "            VarAdd = Fit((Num(a) + Num(b)), Wider(a, b))" ∷ codes "        End If" ∷ codes "    End Function" ∷ [])
unfolding digits is_bracketed
var_add_text = refl

var_sub_text : procedure_text 1 the_var_sub ≡ text_of (codes "    Public Function VarSub(ByVal a As Object, ByVal b As Object) As Object" ∷ codes "        VarSub = Fit((Num(a) - Num(b)), Wider(a, b))" ∷ codes "    End Function" ∷ [])
unfolding digits is_bracketed
var_sub_text = refl

var_mul_text : procedure_text 1 the_var_mul ≡ text_of (codes "    Public Function VarMul(ByVal a As Object, ByVal b As Object) As Object" ∷ codes "        VarMul = Fit((Num(a) * Num(b)), Wider(a, b))" ∷ codes "    End Function" ∷ [])
unfolding digits is_bracketed
var_mul_text = refl

var_div_text : procedure_text 1 the_var_div ≡ text_of (codes "    Public Function VarDiv(ByVal a As Object, ByVal b As Object) As Object" ∷ codes "        VarDiv = Fit(CDec((CInt(Num(a)) \\ CInt(Num(b)))), System.Math.Min(Wider(a, b), 4))" ∷ codes "    End Function" ∷ [])
unfolding digits is_bracketed
var_div_text = refl

var_mod_text : procedure_text 1 the_var_mod ≡ text_of (codes "    Public Function VarMod(ByVal a As Object, ByVal b As Object) As Object" ∷ codes "        VarMod = Fit(CDec((CInt(Num(a)) Mod CInt(Num(b)))), System.Math.Min(Wider(a, b), 4))" ∷ codes "    End Function" ∷ [])
unfolding digits is_bracketed
var_mod_text = refl

var_neg_text : procedure_text 1 the_var_neg ≡ text_of (codes "    Public Function VarNeg(ByVal a As Object) As Object" ∷ codes "        VarNeg = Fit((-Num(a)), Rank(a))" ∷ codes "    End Function" ∷ [])
unfolding digits is_bracketed
var_neg_text = refl

var_not_text : procedure_text 1 the_var_not ≡ text_of (codes "    Public Function VarNot(ByVal a As Object) As Object" ∷ codes "        If (TypeOf a Is Boolean) Then" ∷ codes "            VarNot = (Not CBool(a))" ∷ codes "        Else" ∷ codes "            VarNot = Fit(CDec((Not CInt(Num(a)))), System.Math.Min(Rank(a), 4))" ∷ codes "        End If" ∷ codes "    End Function" ∷ [])
unfolding digits is_bracketed
var_not_text = refl

var_and_text : procedure_text 1 the_var_and ≡ text_of (codes "    Public Function VarAnd(ByVal a As Object, ByVal b As Object) As Object" ∷ codes "        If ((TypeOf a Is Boolean) And (TypeOf b Is Boolean)) Then" ∷ codes "            VarAnd = (CBool(a) And CBool(b))" ∷ codes "        Else" ∷ codes "            VarAnd = Fit(CDec((CInt(Num(a)) And CInt(Num(b)))), System.Math.Min(Wider(a, b), 4))" ∷ codes "        End If" ∷ codes "    End Function" ∷ [])
unfolding digits is_bracketed
var_and_text = refl

var_or_text : procedure_text 1 the_var_or ≡ text_of (codes "    Public Function VarOr(ByVal a As Object, ByVal b As Object) As Object" ∷ codes "        If ((TypeOf a Is Boolean) And (TypeOf b Is Boolean)) Then" ∷ codes "            VarOr = (CBool(a) Or CBool(b))" ∷ codes "        Else" ∷ codes "            VarOr = Fit(CDec((CInt(Num(a)) Or CInt(Num(b)))), System.Math.Min(Wider(a, b), 4))" ∷ codes "        End If" ∷ codes "    End Function" ∷ [])
unfolding digits is_bracketed
var_or_text = refl

var_xor_text : procedure_text 1 the_var_xor ≡ text_of (codes "    Public Function VarXor(ByVal a As Object, ByVal b As Object) As Object" ∷ codes "        If ((TypeOf a Is Boolean) And (TypeOf b Is Boolean)) Then" ∷ codes "            VarXor = (CBool(a) Xor CBool(b))" ∷ codes "        Else" ∷ codes "            VarXor = Fit(CDec((CInt(Num(a)) Xor CInt(Num(b)))), System.Math.Min(Wider(a, b), 4))" ∷ codes "        End If" ∷ codes "    End Function" ∷ [])
unfolding digits is_bracketed
var_xor_text = refl

var_comp_text : procedure_text 1 the_var_comp ≡ text_of (codes "    Public Function VarComp(ByVal a As Object, ByVal b As Object) As Integer" ∷ codes "        If (Wider(a, b) = 6) Then" ∷ codes "            VarComp = System.String.CompareOrdinal((\"\" & VarStr(a)), (\"\" & VarStr(b)))" ∷ codes "        Else" ∷ codes "            VarComp = System.Decimal.Compare(Num(a), Num(b))" ∷ codes "        End If" ∷ codes "    End Function" ∷ [])
unfolding digits is_bracketed
var_comp_text = refl
