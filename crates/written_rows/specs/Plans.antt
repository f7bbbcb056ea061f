-- What the plans of the code stand for.
use Rattle.std.specs.Prelude.{ℕ, List, [], codes, Option, Some, None}
use Rattle.vb_tree.specs.BoundTree.{Ty}
use Rattle.vb_tree.specs.declared.bound.LibCall.{LibCall}
use Rattle.vb_tree.specs.declared.bound.LibCall.TheVariants as lib
use Rattle.vb_tree.specs.declared.expression.BinOp.{BinOp}
use Rattle.vb_tree.specs.declared.expression.BinOp.TheVariants as b
use Rattle.bound_tree.specs.Tree.{Expr, Exprs}
use Rattle.net_tree.specs.declared.expression.CastWord.TheVariants as word
use Rattle.net_tree.specs.declared.expression.NetBin.TheVariants as op
use Rattle.net_tree.specs.Tree as net
use Rattle.written_trees.specs.Names.{Scope}
use Rattle.written_trees.specs.Conversions as rows
use Rattle.written_trees.specs.Conversions.{call_path, support_call, converted}
use Rattle.written_trees.specs.Operators.{checked, eqv, imp, signed, compared, variant_call, variant_not}
use Rattle.written_trees.specs.Library.{text_call, absolute_path, upper, lower, dimension, conversion_of}
use Rattle.written_rows.specs.declared.conversions.Converter.{Converter}
use Rattle.written_rows.specs.declared.conversions.Converter.TheVariants as c
use Rattle.written_rows.specs.declared.conversions.Step.{Step}
use Rattle.written_rows.specs.declared.conversions.Step.TheVariants as s
use Rattle.written_rows.specs.declared.conversions.Conversion.{Conversion}
use Rattle.written_rows.specs.declared.conversions.Conversion.TheVariants as v
use Rattle.written_rows.specs.declared.operators.Sign.{Sign}
use Rattle.written_rows.specs.declared.operators.Sign.TheVariants as sign
use Rattle.written_rows.specs.declared.operators.VariantCall.{VariantCall}
use Rattle.written_rows.specs.declared.operators.VariantCall.TheVariants as call
use Rattle.written_rows.specs.declared.operators.VariantRow.{VariantRow}
use Rattle.written_rows.specs.declared.operators.VariantRow.TheVariants as row
use Rattle.written_rows.specs.declared.library.ArgumentsRow.{ArgumentsRow}
use Rattle.written_rows.specs.declared.library.ArgumentsRow.TheVariants as args
use Rattle.written_rows.specs.declared.library.FirstRow.{FirstRow}
use Rattle.written_rows.specs.declared.library.FirstRow.TheVariants as first
use Rattle.written_rows.specs.declared.library.LibraryRow.{LibraryRow}
use Rattle.written_rows.specs.declared.library.LibraryRow.TheVariants as l

-- ---- conversions

abbrev pub converter_name : Converter → List ℕ
converter_name c.VarBool = codes "VarBool"
converter_name c.VarByte = codes "VarByte"
converter_name c.VarShort = codes "VarShort"
converter_name c.VarInt = codes "VarInt"
converter_name c.VarCur = codes "VarCur"
converter_name c.VarStr = codes "VarStr"
converter_name c.CurText = codes "CurText"

abbrev pub step_of : Step → rows.Conversion
step_of s.Stands = rows.stands
step_of (s.ByWord w) = rows.by_word w
step_of (s.BySupport converter) = rows.by_support (converter_name converter)
step_of s.TextObject = rows.text_object

abbrev pub plan_of : Conversion → rows.Conversion
plan_of (v.Whole step) = step_of step
plan_of (v.Cut step units) = rows.cut (step_of step) units

-- ---- operators

abbrev pub sign_of : BinOp → Sign
sign_of b.Mul = sign.Plain op.Mul
sign_of b.IntDiv = sign.Plain op.IntDiv
sign_of b.Mod = sign.Plain op.Mod
sign_of b.Add = sign.Plain op.Add
sign_of b.Sub = sign.Plain op.Sub
sign_of b.Concat = sign.Plain op.Concat
sign_of b.Equal = sign.Plain op.Equal
sign_of b.NotEqual = sign.Plain op.NotEqual
sign_of b.Less = sign.Plain op.Less
sign_of b.Greater = sign.Plain op.Greater
sign_of b.LessEqual = sign.Plain op.LessEqual
sign_of b.GreaterEqual = sign.Plain op.GreaterEqual
sign_of b.Is = sign.Plain op.Is
sign_of b.And = sign.Plain op.And
sign_of b.Or = sign.Plain op.Or
sign_of b.Xor = sign.Plain op.Xor
sign_of b.Eqv = sign.Eqv
sign_of b.Imp = sign.Imp
sign_of b.Pow = sign.Untranslated
sign_of b.Div = sign.Untranslated
sign_of b.Like = sign.Untranslated

abbrev pub by_sign : Sign → net.Exp → net.Exp → net.Exp
by_sign (sign.Plain o) a d = net.binary o a d
by_sign sign.Eqv a d = eqv a d
by_sign sign.Imp a d = imp a d
by_sign sign.Untranslated a d = net.nothing

abbrev pub call_name : VariantCall → List ℕ
call_name call.VarAdd = codes "VarAdd"
call_name call.VarSub = codes "VarSub"
call_name call.VarMul = codes "VarMul"
call_name call.VarDiv = codes "VarDiv"
call_name call.VarMod = codes "VarMod"
call_name call.VarAnd = codes "VarAnd"
call_name call.VarOr = codes "VarOr"
call_name call.VarXor = codes "VarXor"

abbrev pub variant_row : BinOp → VariantRow
variant_row b.Add = row.Called call.VarAdd
variant_row b.Sub = row.Called call.VarSub
variant_row b.Mul = row.Called call.VarMul
variant_row b.IntDiv = row.Called call.VarDiv
variant_row b.Mod = row.Called call.VarMod
variant_row b.Equal = row.Compared op.Equal
variant_row b.NotEqual = row.Compared op.NotEqual
variant_row b.Less = row.Compared op.Less
variant_row b.Greater = row.Compared op.Greater
variant_row b.LessEqual = row.Compared op.LessEqual
variant_row b.GreaterEqual = row.Compared op.GreaterEqual
variant_row b.And = row.Called call.VarAnd
variant_row b.Or = row.Called call.VarOr
variant_row b.Xor = row.Called call.VarXor
variant_row b.Eqv = row.Eqv
variant_row b.Imp = row.Imp
variant_row b.Concat = row.Signed
variant_row b.Is = row.Signed
variant_row b.Pow = row.Signed
variant_row b.Div = row.Signed
variant_row b.Like = row.Signed

abbrev pub by_variant_row : VariantRow → BinOp → net.Exp → net.Exp → net.Exp
by_variant_row (row.Called f) o a d = variant_call (call_name f) a d
by_variant_row (row.Compared sort) o a d = compared sort a d
by_variant_row row.Eqv o a d = variant_not (variant_call (codes "VarXor") a d)
by_variant_row row.Imp o a d = variant_call (codes "VarOr") (variant_not a) d
by_variant_row row.Signed o a d = signed o a d

-- ---- calls of the library

abbrev pub text_name : LibCall → List ℕ
text_name lib.Len = codes "Len"
text_name lib.Left = codes "Left"
text_name lib.Right = codes "Right"
text_name lib.Mid = codes "Mid"
text_name lib.Trim = codes "Trim"
text_name lib.LTrim = codes "LTrim"
text_name lib.RTrim = codes "RTrim"
text_name lib.UCase = codes "UCase"
text_name lib.LCase = codes "LCase"
text_name lib.Space = codes "Space"
text_name lib.Chr = codes "Chr"
text_name lib.Asc = codes "Asc"
text_name lib.InStr = codes "InStr"
text_name _ = []

abbrev pub library_row : LibCall → LibraryRow
library_row lib.Len = l.ByArguments args.Text
library_row lib.Left = l.ByArguments args.Text
library_row lib.Right = l.ByArguments args.Text
library_row lib.Mid = l.ByArguments args.Text
library_row lib.Trim = l.ByArguments args.Text
library_row lib.LTrim = l.ByArguments args.Text
library_row lib.RTrim = l.ByArguments args.Text
library_row lib.UCase = l.ByArguments args.Text
library_row lib.LCase = l.ByArguments args.Text
library_row lib.Space = l.ByArguments args.Text
library_row lib.Chr = l.ByArguments (args.CastText word.CStr)
library_row lib.Asc = l.ByArguments (args.CastText word.CShort)
library_row lib.InStr = l.ByArguments args.Text
library_row lib.Abs = l.ByArguments args.Absolute
library_row lib.CBool = l.ByFirst first.Converted
library_row lib.CByte = l.ByFirst first.Converted
library_row lib.CInt = l.ByFirst first.Converted
library_row lib.CLng = l.ByFirst first.Converted
library_row lib.CCur = l.ByFirst first.Converted
library_row lib.CStr = l.ByFirst first.Converted
library_row lib.IsEmpty = l.ByFirst first.IsEmpty
library_row lib.UBound = l.ByFirst first.Upper
library_row lib.LBound = l.ByFirst first.Lower
library_row lib.MsgBox = l.ByArguments args.MsgBox
library_row lib.InputBox = l.ByArguments args.InputBox

abbrev pub converted_to : Option Ty → Expr → net.Exp → net.Exp
converted_to None e a = net.nothing
converted_to (Some to) e a = converted to e a

abbrev pub by_arguments : ArgumentsRow → LibCall → (result : Ty) → net.Exps → net.Exp
by_arguments args.Text f result es = text_call (text_name f) es
by_arguments (args.CastText w) f result es = net.cast w (text_call (text_name f) es)
by_arguments args.Absolute f result es = checked result (call_path absolute_path es)
by_arguments args.MsgBox f result es = support_call (codes "Box") es
by_arguments args.InputBox f result es = support_call (codes "Ask") es

abbrev pub by_first : FirstRow → Scope → LibCall → Expr → Exprs → net.Exp → net.Exp
by_first first.Converted S f e rest a = converted_to (conversion_of f) e a
by_first first.IsEmpty S f e rest a = net.binary op.Is a net.nothing
by_first first.Upper S f e rest a = upper S e a (dimension rest)
by_first first.Lower S f e rest a = lower S e a (dimension rest)

abbrev pub by_library_row : LibraryRow → Scope → LibCall → (result : Ty) → Expr → Exprs → net.Exp → net.Exps → net.Exp
by_library_row (l.ByArguments r) S f result e rest a es = by_arguments r f result es
by_library_row (l.ByFirst r) S f result e rest a es = by_first r S f e rest a
