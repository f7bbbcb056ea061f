-- How types and expressions are written, and which can be.
use Rattle.std.specs.Prelude.{ℕ, ◌-◌, zero, negsuc, Bool, true, false, not, ◌&&◌, ◌||◌, ◌==◌, List, [], ◌∷◌, ◌++◌, replicate, codes}
use Rattle.net_tree.specs.declared.expression.CastWord.{CastWord}
use Rattle.net_tree.specs.declared.expression.CastWord.TheVariants as word
use Rattle.net_tree.specs.declared.expression.NetBin.{NetBin}
use Rattle.net_tree.specs.declared.expression.NetBin.TheVariants as op
use Rattle.net_tree.specs.declared.expression.NetUn.{NetUn}
use Rattle.net_tree.specs.declared.expression.NetUn.TheVariants as un
use Rattle.net_tree.specs.Types as ty
use Rattle.net_tree.specs.Types.{TypeName}
use Rattle.net_tree.specs.Tree.{Exp, Exps, binary, call_of, cast, ctype, dot, integer, lit, me, new_array, new_object, next_exp, no_exps, nothing, paren, path, type_of, unary, with_dot}
use Rattle.net_tree.specs.Spelling.{in_parentheses, name_text, path_text, is_identifier, is_path}
use Rattle.net_tree.specs.Literals.{literal_text, is_writable_literal}
use Rattle.net_tree.specs.Depth.{is_shallow, is_shallow_type}

-- the parentheses of an array, with a comma between its dimensions
abbrev pub rank_text : ℕ → List ℕ
rank_text rank = codes "(" ++ replicate (rank - 1) 44 ++ codes ")"

abbrev pub type_text : TypeName → List ℕ
type_text ty.boolean = codes "Boolean"
type_text ty.byte = codes "Byte"
type_text ty.short = codes "Short"
type_text ty.integer = codes "Integer"
type_text ty.long = codes "Long"
type_text ty.decimal = codes "Decimal"
type_text ty.str = codes "String"
type_text ty.object = codes "Object"
type_text ty.system_array = codes "System.Array"
type_text (ty.named names) = path_text names
type_text (ty.array_of element rank) = type_text element ++ rank_text rank

abbrev pub cast_text : CastWord → List ℕ
cast_text word.CBool = codes "CBool"
cast_text word.CByte = codes "CByte"
cast_text word.CShort = codes "CShort"
cast_text word.CInt = codes "CInt"
cast_text word.CLng = codes "CLng"
cast_text word.CDec = codes "CDec"
cast_text word.CStr = codes "CStr"
cast_text word.CObj = codes "CObj"

-- what stands before the operand
abbrev pub unary_text : NetUn → List ℕ
unary_text un.Neg = codes "-"
unary_text un.Not = codes "Not "

abbrev pub sign_text : NetBin → List ℕ
sign_text op.Add = codes "+"
sign_text op.Sub = codes "-"
sign_text op.Mul = codes "*"
sign_text op.IntDiv = codes "\\"
sign_text op.Mod = codes "Mod"
sign_text op.Concat = codes "&"
sign_text op.Equal = codes "="
sign_text op.NotEqual = codes "<>"
sign_text op.Less = codes "<"
sign_text op.Greater = codes ">"
sign_text op.LessEqual = codes "<="
sign_text op.GreaterEqual = codes ">="
sign_text op.And = codes "And"
sign_text op.Or = codes "Or"
sign_text op.Xor = codes "Xor"
sign_text op.Is = codes "Is"

-- an operator with the blanks around it
abbrev pub operator_text : NetBin → List ℕ
operator_text o = codes " " ++ sign_text o ++ codes " "

-- an operator stands with its operands in parentheses
abbrev mutual
  pub exp_text : Exp → List ℕ
  exp_text (lit l) = literal_text l
  exp_text nothing = codes "Nothing"
  exp_text me = codes "Me"
  exp_text (path names) = path_text names
  exp_text (with_dot name) = codes "." ++ name_text name
  exp_text (dot e name) = exp_text e ++ codes "." ++ name_text name
  exp_text (call_of e args) = exp_text e ++ in_parentheses (exp_texts args)
  exp_text (cast w e) = cast_text w ++ codes "(" ++ exp_text e ++ codes ")"
  exp_text (ctype e t) = codes "CType(" ++ exp_text e ++ codes ", " ++ type_text t ++ codes ")"
  exp_text (unary o e) = codes "(" ++ unary_text o ++ exp_text e ++ codes ")"
  exp_text (binary o a b) = codes "(" ++ exp_text a ++ operator_text o ++ exp_text b ++ codes ")"
  exp_text (paren e) = codes "(" ++ exp_text e ++ codes ")"
  exp_text (new_object t args) = codes "New " ++ type_text t ++ in_parentheses (exp_texts args)
  exp_text (new_array t bounds) = codes "New " ++ type_text t ++ in_parentheses (exp_texts bounds) ++ codes " {}"
  exp_text (type_of e t) = codes "(TypeOf " ++ exp_text e ++ codes " Is " ++ type_text t ++ codes ")"

  pub exp_texts : Exps → List (List ℕ)
  exp_texts no_exps = []
  exp_texts (next_exp e more) = exp_text e ∷ exp_texts more

-- arguments, or the bounds of an array
abbrev pub arguments_text : Exps → List ℕ
arguments_text args = in_parentheses (exp_texts args)

-- an array has a dimension
abbrev pub is_spelt_type : TypeName → Bool
is_spelt_type (ty.named names) = is_path names
is_spelt_type (ty.array_of element rank) = is_spelt_type element && not (rank == 0)
is_spelt_type _ = true

-- A type can be written where it is no more arrays than are read back.
abbrev pub is_writable_type : TypeName → Bool
is_writable_type t = is_shallow_type t && is_spelt_type t

-- whether a type is a class or a structure
abbrev pub is_named : TypeName → Bool
is_named (ty.named names) = true
is_named _ = false

abbrev pub is_path_exp : Exp → Bool
is_path_exp (path names) = true
is_path_exp _ = false

-- the bound -1, which makes an array of no items
abbrev pub is_no_bound : Exp → Bool
is_no_bound (lit (integer (negsuc zero) false)) = true
is_no_bound _ = false

-- A member of a path is the longer path; an object is made of a named type alone; the bound -1 of an array that is made is
-- the one negative number in decimal digits.
abbrev mutual
  pub is_writable_exp : Exp → Bool
  is_writable_exp (lit l) = is_writable_literal l
  is_writable_exp nothing = true
  is_writable_exp me = true
  is_writable_exp (path names) = is_path names
  is_writable_exp (with_dot name) = is_identifier name
  is_writable_exp (dot e name) = not (is_path_exp e) && is_writable_exp e && is_identifier name
  is_writable_exp (call_of e args) = is_writable_exp e && are_writable_exps args
  is_writable_exp (cast w e) = is_writable_exp e
  is_writable_exp (ctype e t) = is_writable_exp e && is_writable_type t
  is_writable_exp (unary o e) = is_writable_exp e
  is_writable_exp (binary o a b) = is_writable_exp a && is_writable_exp b
  is_writable_exp (paren e) = is_writable_exp e
  is_writable_exp (new_object t args) = is_named t && is_writable_type t && are_writable_exps args
  is_writable_exp (new_array t bounds) = is_writable_type t && are_writable_bounds bounds
  is_writable_exp (type_of e t) = is_writable_exp e && is_writable_type t

  pub are_writable_exps : Exps → Bool
  are_writable_exps no_exps = true
  are_writable_exps (next_exp e more) = is_writable_exp e && are_writable_exps more

  pub are_writable_bounds : Exps → Bool
  are_writable_bounds no_exps = true
  are_writable_bounds (next_exp e more) = (is_no_bound e || is_writable_exp e) && are_writable_bounds more

-- An expression that is no part of another one can stand in a line where it is nested no deeper than is read back.
abbrev pub is_writable_whole : Exp → Bool
is_writable_whole e = is_shallow e && is_writable_exp e
