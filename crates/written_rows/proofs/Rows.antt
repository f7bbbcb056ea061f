-- The rows that the code's plans stand for are those of the operator or the function.
use Rattle.std.proofs.Common.{◌≡◌, refl}
use Rattle.vb_tree.specs.BoundTree.{Ty}
use Rattle.vb_tree.specs.declared.bound.LibCall.{LibCall}
use Rattle.vb_tree.specs.declared.bound.LibCall.TheVariants as lib
use Rattle.vb_tree.specs.declared.expression.BinOp.{BinOp}
use Rattle.vb_tree.specs.declared.expression.BinOp.TheVariants as b
use Rattle.bound_tree.specs.Tree.{Expr, Exprs}
use Rattle.net_tree.specs.Tree as net
use Rattle.written_trees.specs.Names.{Scope}
use Rattle.written_trees.specs.Operators.{signed, variant_operator}
use Rattle.written_trees.specs.Library.{library_call}
use Rattle.written_rows.specs.Plans.{sign_of, by_sign, variant_row, by_variant_row, library_row, by_library_row}

pub signed_by_plan : (o : BinOp) (a d : net.Exp) → signed o a d ≡ by_sign (sign_of o) a d
signed_by_plan b.Pow a d = refl
signed_by_plan b.Mul a d = refl
signed_by_plan b.Div a d = refl
signed_by_plan b.IntDiv a d = refl
signed_by_plan b.Mod a d = refl
signed_by_plan b.Add a d = refl
signed_by_plan b.Sub a d = refl
signed_by_plan b.Concat a d = refl
signed_by_plan b.Equal a d = refl
signed_by_plan b.NotEqual a d = refl
signed_by_plan b.Less a d = refl
signed_by_plan b.Greater a d = refl
signed_by_plan b.LessEqual a d = refl
signed_by_plan b.GreaterEqual a d = refl
signed_by_plan b.Like a d = refl
signed_by_plan b.Is a d = refl
signed_by_plan b.And a d = refl
signed_by_plan b.Or a d = refl
signed_by_plan b.Xor a d = refl
signed_by_plan b.Eqv a d = refl
signed_by_plan b.Imp a d = refl

pub variant_by_plan : (o : BinOp) (a d : net.Exp) → variant_operator o a d ≡ by_variant_row (variant_row o) o a d
variant_by_plan b.Pow a d = refl
variant_by_plan b.Mul a d = refl
variant_by_plan b.Div a d = refl
variant_by_plan b.IntDiv a d = refl
variant_by_plan b.Mod a d = refl
variant_by_plan b.Add a d = refl
variant_by_plan b.Sub a d = refl
variant_by_plan b.Concat a d = refl
variant_by_plan b.Equal a d = refl
variant_by_plan b.NotEqual a d = refl
variant_by_plan b.Less a d = refl
variant_by_plan b.Greater a d = refl
variant_by_plan b.LessEqual a d = refl
variant_by_plan b.GreaterEqual a d = refl
variant_by_plan b.Like a d = refl
variant_by_plan b.Is a d = refl
variant_by_plan b.And a d = refl
variant_by_plan b.Or a d = refl
variant_by_plan b.Xor a d = refl
variant_by_plan b.Eqv a d = refl
variant_by_plan b.Imp a d = refl

pub called_by_plan : (S : Scope) (f : LibCall) (result : Ty) (e : Expr) (rest : Exprs) (a : net.Exp) (args : net.Exps) → library_call S f result e rest a args ≡ by_library_row (library_row f) S f result e rest a args
called_by_plan S lib.Len result e rest a args = refl
called_by_plan S lib.Left result e rest a args = refl
called_by_plan S lib.Right result e rest a args = refl
called_by_plan S lib.Mid result e rest a args = refl
called_by_plan S lib.Trim result e rest a args = refl
called_by_plan S lib.LTrim result e rest a args = refl
called_by_plan S lib.RTrim result e rest a args = refl
called_by_plan S lib.UCase result e rest a args = refl
called_by_plan S lib.LCase result e rest a args = refl
called_by_plan S lib.Space result e rest a args = refl
called_by_plan S lib.Chr result e rest a args = refl
called_by_plan S lib.Asc result e rest a args = refl
called_by_plan S lib.InStr result e rest a args = refl
called_by_plan S lib.Abs result e rest a args = refl
called_by_plan S lib.CBool result e rest a args = refl
called_by_plan S lib.CByte result e rest a args = refl
called_by_plan S lib.CInt result e rest a args = refl
called_by_plan S lib.CLng result e rest a args = refl
called_by_plan S lib.CCur result e rest a args = refl
called_by_plan S lib.CStr result e rest a args = refl
called_by_plan S lib.IsEmpty result e rest a args = refl
called_by_plan S lib.UBound result e rest a args = refl
called_by_plan S lib.LBound result e rest a args = refl
called_by_plan S lib.MsgBox result e rest a args = refl
called_by_plan S lib.InputBox result e rest a args = refl
