-- What is written for operators over operands of declared types and over Variants. The operands are of the row's types already, but
-- for the factors of a product in Currency.
use Rattle.std.specs.Prelude.{ℕ, Bool, true, false, cond, ◌||◌, List, codes}
use Rattle.vb_tree.specs.BoundTree as vb
use Rattle.vb_tree.specs.BoundTree.{Ty}
use Rattle.vb_tree.specs.declared.expression.BinOp.{BinOp}
use Rattle.vb_tree.specs.declared.expression.BinOp.TheVariants as b
use Rattle.vb_tree.specs.declared.expression.UnOp.{UnOp}
use Rattle.vb_tree.specs.declared.expression.UnOp.TheVariants as u
use Rattle.bound_tree.specs.Tree.{Expr}
use Rattle.bound_facts.specs.Node.{type_at, is_variant}
use Rattle.net_tree.specs.declared.expression.NetBin.{NetBin}
use Rattle.net_tree.specs.declared.expression.NetBin.TheVariants as op
use Rattle.net_tree.specs.declared.expression.NetUn.TheVariants as un
use Rattle.net_tree.specs.Tree as net
use Rattle.written_trees.specs.Literals.{number}
use Rattle.written_trees.specs.Conversions.{one, two, support_call, converted}

-- ---- operators that have a sign of their own or are made of such

abbrev pub eqv : net.Exp → net.Exp → net.Exp
eqv a c = net.unary un.Not (net.binary op.Xor a c)

abbrev pub imp : net.Exp → net.Exp → net.Exp
imp a c = net.binary op.Or (net.unary un.Not a) c

-- the operators past these aren't translated
abbrev pub signed : BinOp → net.Exp → net.Exp → net.Exp
signed b.Mul a c = net.binary op.Mul a c
signed b.IntDiv a c = net.binary op.IntDiv a c
signed b.Mod a c = net.binary op.Mod a c
signed b.Add a c = net.binary op.Add a c
signed b.Sub a c = net.binary op.Sub a c
signed b.Concat a c = net.binary op.Concat a c
signed b.Equal a c = net.binary op.Equal a c
signed b.NotEqual a c = net.binary op.NotEqual a c
signed b.Less a c = net.binary op.Less a c
signed b.Greater a c = net.binary op.Greater a c
signed b.LessEqual a c = net.binary op.LessEqual a c
signed b.GreaterEqual a c = net.binary op.GreaterEqual a c
signed b.Is a c = net.binary op.Is a c
signed b.And a c = net.binary op.And a c
signed b.Or a c = net.binary op.Or a c
signed b.Xor a c = net.binary op.Xor a c
signed b.Eqv a c = eqv a c
signed b.Imp a c = imp a c
signed b.Pow a c = net.nothing
signed b.Div a c = net.nothing
signed b.Like a c = net.nothing

abbrev pub unsigned : UnOp → net.Exp → net.Exp
unsigned u.Neg a = net.unary un.Neg a
unsigned u.Not a = net.unary un.Not a

-- ---- operands of declared types

-- a Currency is checked after arithmetic; whole numbers check themselves
abbrev pub checked : Ty → net.Exp → net.Exp
checked vb.currency e = support_call (codes "Cur") (one e)
checked _ e = e

abbrev pub is_text : Ty → Bool
is_text vb.str = true
is_text (vb.fixed units) = true
is_text _ = false

abbrev pub sum : (operands result : Ty) → net.Exp → net.Exp → net.Exp
sum s result a c = cond (is_text s) (net.binary op.Concat a c) (checked result (net.binary op.Add a c))

-- an operator of which the first operand has a type; only a sum asks it
abbrev pub typed_operator : BinOp → (operands result : Ty) → net.Exp → net.Exp → net.Exp
typed_operator b.Add s result a c = sum s result a c
typed_operator b.Sub s result a c = checked result (signed b.Sub a c)
typed_operator b.Mul s result a c = checked result (signed b.Mul a c)
typed_operator o s result a c = signed o a c

abbrev pub typed_unary : UnOp → (result : Ty) → net.Exp → net.Exp
typed_unary u.Neg result a = checked result (net.unary un.Neg a)
typed_unary u.Not result a = net.unary un.Not a

-- ---- Variants

abbrev pub variant_call : List ℕ → net.Exp → net.Exp → net.Exp
variant_call name a c = support_call name (two a c)

-- a comparison tests the number that the comparison of the two gives
abbrev pub compared : NetBin → net.Exp → net.Exp → net.Exp
compared o a c = net.binary o (variant_call (codes "VarComp") a c) (number 0)

abbrev pub variant_not : net.Exp → net.Exp
variant_not a = support_call (codes "VarNot") (one a)

abbrev pub variant_operator : BinOp → net.Exp → net.Exp → net.Exp
variant_operator b.Add a c = variant_call (codes "VarAdd") a c
variant_operator b.Sub a c = variant_call (codes "VarSub") a c
variant_operator b.Mul a c = variant_call (codes "VarMul") a c
variant_operator b.IntDiv a c = variant_call (codes "VarDiv") a c
variant_operator b.Mod a c = variant_call (codes "VarMod") a c
variant_operator b.Equal a c = compared op.Equal a c
variant_operator b.NotEqual a c = compared op.NotEqual a c
variant_operator b.Less a c = compared op.Less a c
variant_operator b.Greater a c = compared op.Greater a c
variant_operator b.LessEqual a c = compared op.LessEqual a c
variant_operator b.GreaterEqual a c = compared op.GreaterEqual a c
variant_operator b.And a c = variant_call (codes "VarAnd") a c
variant_operator b.Or a c = variant_call (codes "VarOr") a c
variant_operator b.Xor a c = variant_call (codes "VarXor") a c
variant_operator b.Eqv a c = variant_not (variant_call (codes "VarXor") a c)
variant_operator b.Imp a c = variant_call (codes "VarOr") (variant_not a) c
variant_operator o a c = signed o a c

abbrev pub variant_unary : UnOp → net.Exp → net.Exp
variant_unary u.Neg a = support_call (codes "VarNeg") (one a)
variant_unary u.Not a = variant_not a

-- ---- operators over bound operands

abbrev pub is_product_in_currency : BinOp → Ty → Bool
is_product_in_currency b.Mul vb.currency = true
is_product_in_currency _ _ = false

-- an operand of a product in Currency stays as it is bound, and is written as one of Currency
abbrev pub operand : (in_currency : Bool) → Expr → net.Exp → net.Exp
operand in_currency e a = cond in_currency (converted vb.currency e a) a

-- operands that are written as a and c
abbrev pub binary_exp : BinOp → (result : Ty) → Expr → Expr → net.Exp → net.Exp → net.Exp
binary_exp o result e f a c =
    cond (is_variant (type_at e) || is_variant (type_at f)) (variant_operator o a c)
    (typed_operator o (type_at e) result (operand (is_product_in_currency o result) e a) (operand (is_product_in_currency o result) f c))

abbrev pub unary_exp : UnOp → (result : Ty) → Expr → net.Exp → net.Exp
unary_exp o result e a = cond (is_variant (type_at e)) (variant_unary o a) (typed_unary o result a)
