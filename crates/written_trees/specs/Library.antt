-- What is written for calls of the library, whose arguments are of the wanted types already.
use Rattle.std.specs.Prelude.{ℕ, pred, ℤ, pos, negsuc, false, List, [], ◌∷◌, codes, Option, Some, None}
use Rattle.vb_tree.specs.BoundTree as vb
use Rattle.vb_tree.specs.BoundTree.{Ty}
use Rattle.vb_tree.specs.declared.bound.LibCall.{LibCall}
use Rattle.vb_tree.specs.declared.bound.LibCall.TheVariants as lib
use Rattle.vb_tree.specs.declared.value.Value6.{Value6}
use Rattle.vb_tree.specs.declared.value.Value6.TheVariants as v
use Rattle.bound_tree.specs.Tree.{Expr, Exprs, no_exprs, next_expr}
use Rattle.bound_facts.specs.Folded.{folded, converted_value}
use Rattle.bound_facts.specs.Node.{declared_at}
use Rattle.net_tree.specs.declared.expression.CastWord.TheVariants as word
use Rattle.net_tree.specs.declared.expression.NetBin.TheVariants as op
use Rattle.net_tree.specs.Tree as net
use Rattle.written_trees.specs.Facts.{Facts}
use Rattle.written_trees.specs.Literals.{number, constant_exp}
use Rattle.written_trees.specs.Names.{Path, Scope, strings}
use Rattle.written_trees.specs.Conversions.{two, three, call_path, support_call, converted}
use Rattle.written_trees.specs.Operators.{checked}

-- the type to which a call converts
abbrev pub conversion_of : LibCall → Option Ty
conversion_of lib.CBool = Some vb.boolean
conversion_of lib.CByte = Some vb.byte
conversion_of lib.CInt = Some vb.integer
conversion_of lib.CLng = Some vb.long
conversion_of lib.CCur = Some vb.currency
conversion_of lib.CStr = Some vb.str
conversion_of _ = None

-- ---- bounds of arrays

abbrev pub one_less : ℤ → ℕ
one_less (pos n) = pred n
one_less (negsuc n) = 0

abbrev pub dimension_by : Value6 → ℕ
dimension_by (v.Long z) = one_less z
dimension_by _ = 0

abbrev pub dimension_in : Option Value6 → ℕ
dimension_in None = 0
dimension_in (Some x) = dimension_by x

-- the dimension that a constant argument names, counted from 0
abbrev pub dimension_of : Expr → ℕ
dimension_of e = dimension_in (converted_value vb.long (folded e))

-- without an argument it is the first
abbrev pub dimension : Exprs → ℕ
dimension no_exprs = 0
dimension (next_expr e rest) = dimension_of e

abbrev pub low_of : Facts → Option ℕ → (dimension : ℕ) → ℤ
low_of F None d = pos 0
low_of F (Some a) d = F.low a d

-- the lower bound of an array in a dimension
abbrev pub low_at : Scope → (array : Expr) → (dimension : ℕ) → ℤ
low_at S e d = low_of S.facts (declared_at S.declarations e) d

-- a lower bound is a constant of type Long
abbrev pub low_exp : ℤ → net.Exp
low_exp z = constant_exp false (v.Long z)

abbrev pub upper : Scope → (array : Expr) → net.Exp → (dimension : ℕ) → net.Exp
upper S e a d = support_call (codes "Hi") (three a (number d) (low_exp (low_at S e d)))

abbrev pub lower : Scope → (array : Expr) → net.Exp → (dimension : ℕ) → net.Exp
lower S e a d = support_call (codes "Lo") (two a (low_exp (low_at S e d)))

-- ---- calls

abbrev pub text_call : List ℕ → net.Exps → net.Exp
text_call name args = call_path (strings name) args

abbrev pub absolute_path : Path
absolute_path = codes "System" ∷ codes "Math" ∷ codes "Abs" ∷ []

-- a call of which the first argument is `e`, which is written `a`, and whose other arguments are `rest`; all are written `args`
abbrev pub library_call : Scope → LibCall → (result : Ty) → Expr → Exprs → net.Exp → net.Exps → net.Exp
library_call S lib.Len result e rest a args = text_call (codes "Len") args
library_call S lib.Left result e rest a args = text_call (codes "Left") args
library_call S lib.Right result e rest a args = text_call (codes "Right") args
library_call S lib.Mid result e rest a args = text_call (codes "Mid") args
library_call S lib.Trim result e rest a args = text_call (codes "Trim") args
library_call S lib.LTrim result e rest a args = text_call (codes "LTrim") args
library_call S lib.RTrim result e rest a args = text_call (codes "RTrim") args
library_call S lib.UCase result e rest a args = text_call (codes "UCase") args
library_call S lib.LCase result e rest a args = text_call (codes "LCase") args
library_call S lib.Space result e rest a args = text_call (codes "Space") args
library_call S lib.Chr result e rest a args = net.cast word.CStr (text_call (codes "Chr") args)
library_call S lib.Asc result e rest a args = net.cast word.CShort (text_call (codes "Asc") args)
library_call S lib.InStr result e rest a args = text_call (codes "InStr") args
library_call S lib.Abs result e rest a args = checked result (call_path absolute_path args)
library_call S lib.CBool result e rest a args = converted vb.boolean e a
library_call S lib.CByte result e rest a args = converted vb.byte e a
library_call S lib.CInt result e rest a args = converted vb.integer e a
library_call S lib.CLng result e rest a args = converted vb.long e a
library_call S lib.CCur result e rest a args = converted vb.currency e a
library_call S lib.CStr result e rest a args = converted vb.str e a
library_call S lib.IsEmpty result e rest a args = net.binary op.Is a net.nothing
library_call S lib.UBound result e rest a args = upper S e a (dimension rest)
library_call S lib.LBound result e rest a args = lower S e a (dimension rest)
library_call S lib.MsgBox result e rest a args = support_call (codes "Box") args
library_call S lib.InputBox result e rest a args = support_call (codes "Ask") args
