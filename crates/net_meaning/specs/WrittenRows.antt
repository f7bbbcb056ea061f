-- What is written for an operator and for a conversion, as a row over the two operands, and what a row gives.
use Rattle.std.specs.Prelude.{ℕ, nat_eq, Bool, true, false, if◌then◌else◌, ◌&&◌, ◌||◌, [], Option, Some, None}
use Rattle.vb_tree.specs.BoundTree as types
use Rattle.vb_tree.specs.BoundTree.{Ty}
use Rattle.vb_tree.specs.declared.expression.BinOp.{BinOp}
use Rattle.vb_tree.specs.declared.expression.BinOp.TheVariants as b
use Rattle.vb_tree.specs.declared.expression.UnOp.{UnOp}
use Rattle.vb_tree.specs.declared.expression.UnOp.TheVariants as u
use Rattle.vb6_meaning.specs.Answers.{Answer, gives, then_answer}
use Rattle.vb6_meaning.specs.declared.number.NumberKind.{NumberKind}
use Rattle.vb6_meaning.specs.declared.number.NumberKind.TheVariants as kinds
use Rattle.vb6_meaning.specs.Kinds.{wider, whole, is_byte, rank}
use Rattle.vb6_meaning.specs.Values.{are_currencies}
use Rattle.net_tree.specs.declared.expression.CastWord.{CastWord}
use Rattle.net_tree.specs.declared.expression.CastWord.TheVariants as word
use Rattle.net_tree.specs.declared.expression.NetBin.{NetBin}
use Rattle.net_tree.specs.declared.expression.NetBin.TheVariants as op
use Rattle.net_tree.specs.declared.expression.NetUn.{NetUn}
use Rattle.net_tree.specs.declared.expression.NetUn.TheVariants as un
use Rattle.net_tree.specs.declared.expression.OpN.TheVariants.{Bin, Un}
use Rattle.net_tree.specs.Types.{TypeName}
use Rattle.net_tree.specs.Types as net
use Rattle.net_meaning.specs.declared.value.ValueN.{ValueN}
use Rattle.net_meaning.specs.declared.value.ValueN.TheVariants as n
use Rattle.net_meaning.specs.Conversions.{coerce_net}
use Rattle.net_meaning.specs.Operators.{operate_net}
use Rattle.net_meaning.specs.Support as support

-- a call of the support module
pub data Call : Type 0 where
  cur : Call
  cur_text : Call
  fix : ℕ → Call
  -- `VarBool`, `VarByte`, `VarShort`, `VarInt` or `VarCur`, by the type to which it converts
  var_as : Ty → Call
  var_str : Call

-- an expression over two operands
pub data Row : Type 0 where
  operand_a : Row
  operand_b : Row
  -- `""`
  no_text : Row
  cast : CastWord → Row → Row
  unary : NetUn → Row → Row
  binary : NetBin → Row → Row → Row
  call : Call → Row → Row

-- ---- what a row gives

abbrev pub cast_type : CastWord → TypeName
cast_type word.CBool = net.boolean
cast_type word.CByte = net.byte
cast_type word.CShort = net.short
cast_type word.CInt = net.integer
cast_type word.CLng = net.long
cast_type word.CDec = net.decimal
cast_type word.CStr = net.str
cast_type word.CObj = net.object

abbrev pub called : Call → ValueN → Answer ValueN
called cur v = support.cur v
called cur_text v = support.cur_text v
called (fix n) v = support.fix v n
called (var_as t) v = support.var_as t v
called var_str v = support.var_str v

-- operands go from the left, and the first raised number or outside stands
abbrev pub evaluate : Row → ValueN → ValueN → Answer ValueN
evaluate operand_a x y = gives x
evaluate operand_b x y = gives y
evaluate no_text x y = gives (n.Str [])
evaluate (cast w r) x y = then_answer (evaluate r x y) (λ v. coerce_net v (cast_type w))
evaluate (unary op r) x y = then_answer (evaluate r x y) (λ v. operate_net (Un op) v v)
evaluate (binary op r s) x y = then_answer (evaluate r x y) (λ v. then_answer (evaluate s x y) (λ w. operate_net (Bin op) v w))
evaluate (call f r) x y = then_answer (evaluate r x y) (called f)

-- ---- what is written

-- a row and the type of what it gives
pub record Written : Type 0 where
  pub ty : Ty
  pub row : Row

abbrev pub written : Ty → Row → Option Written
written ty row = Some (record { ty = ty; row = row })

-- the kind of number that a type counts as in arithmetic: a Boolean is an Integer
abbrev pub kind_of : Ty → Option NumberKind
kind_of types.boolean = Some kinds.Integer
kind_of types.byte = Some kinds.Byte
kind_of types.integer = Some kinds.Integer
kind_of types.long = Some kinds.Long
kind_of types.currency = Some kinds.Currency
kind_of _ = None

abbrev pub type_of_kind : NumberKind → Ty
type_of_kind kinds.Byte = types.byte
type_of_kind kinds.Integer = types.integer
type_of_kind kinds.Long = types.long
type_of_kind kinds.Currency = types.currency

-- the word that converts to the type of a kind
abbrev pub word_of_kind : NumberKind → CastWord
word_of_kind kinds.Byte = word.CByte
word_of_kind kinds.Integer = word.CShort
word_of_kind kinds.Long = word.CInt
word_of_kind kinds.Currency = word.CDec

-- whether a type is that of a kind
abbrev pub is_of_kind : NumberKind → Ty → Bool
is_of_kind kinds.Byte types.byte = true
is_of_kind kinds.Integer types.integer = true
is_of_kind kinds.Long types.long = true
is_of_kind kinds.Currency types.currency = true
is_of_kind k _ = false

-- an operand of a type as a number of a kind: of that type as it stands
abbrev pub as_kind : NumberKind → Ty → Row → Row
as_kind k ty r = if is_of_kind k ty then r else cast (word_of_kind k) r

-- a Currency is checked after arithmetic, whole numbers check themselves
abbrev pub checked : NumberKind → Row → Row
checked kinds.Byte r = r
checked kinds.Integer r = r
checked kinds.Long r = r
checked kinds.Currency r = call cur r

-- a row on two numbers, where both operands are some
abbrev pub on_kinds : (NumberKind → NumberKind → Option Written) → Option NumberKind → Option NumberKind → Option Written
on_kinds f (Some k) (Some l) = f k l
on_kinds f (Some k) None = None
on_kinds f None l = None

-- both operands as numbers of a kind
abbrev pub both_as : NumberKind → NetBin → Ty → Ty → Row
both_as k op s t = binary op (as_kind k s operand_a) (as_kind k t operand_b)

-- a sum, a difference or a product in the wider kind
abbrev pub arithmetic : NetBin → Ty → Ty → NumberKind → NumberKind → Option Written
arithmetic op s t k l = written (type_of_kind (wider k l)) (checked (wider k l) (both_as (wider k l) op s t))

-- two Currencies have no product
abbrev pub product : Ty → Ty → NumberKind → NumberKind → Option Written
product s t k l = if are_currencies k l then None else arithmetic op.Mul s t k l

-- a quotient or a remainder; a Currency counts as a Long
abbrev pub division : NetBin → Ty → Ty → NumberKind → NumberKind → Option Written
division op s t k l = written (type_of_kind (whole (wider k l))) (both_as (whole (wider k l)) op s t)

abbrev pub compared : NetBin → Ty → Ty → NumberKind → NumberKind → Option Written
compared op s t k l = written types.boolean (both_as (wider k l) op s t)

abbrev pub on_numbers : (Ty → Ty → NumberKind → NumberKind → Option Written) → Ty → Ty → Option Written
on_numbers f s t = on_kinds (f s t) (kind_of s) (kind_of t)

-- a fixed string reads as a String
abbrev pub is_text : Ty → Bool
is_text types.str = true
is_text (types.fixed units) = true
is_text _ = false

abbrev pub is_boolean : Ty → Bool
is_boolean types.boolean = true
is_boolean _ = false

abbrev pub added : Ty → Ty → Option Written
added s t = if is_text s && is_text t then written types.str (binary op.Concat operand_a operand_b) else on_numbers (arithmetic op.Add) s t

-- an operand of a type as a String
abbrev pub as_text : Ty → Row → Option Row
as_text types.boolean r = Some (cast word.CStr r)
as_text types.byte r = Some (cast word.CStr r)
as_text types.integer r = Some (cast word.CStr r)
as_text types.long r = Some (cast word.CStr r)
as_text types.currency r = Some (call cur_text r)
as_text types.str r = Some r
as_text (types.fixed units) r = Some r
as_text _ r = None

abbrev pub joined_rows : Option Row → Option Row → Option Written
joined_rows (Some r) (Some s) = written types.str (binary op.Concat r s)
joined_rows (Some r) None = None
joined_rows None s = None

abbrev pub joined : Ty → Ty → Option Written
joined s t = joined_rows (as_text s operand_a) (as_text t operand_b)

-- two texts by their units, two Booleans, or two numbers
abbrev pub comparison : NetBin → Ty → Ty → Option Written
comparison op s t =
    if is_text s && is_text t || is_boolean s && is_boolean t then written types.boolean (binary op operand_a operand_b)
    else on_numbers (compared op) s t

-- the rows of And, Or, Xor, Eqv and Imp over their two operands
abbrev pub and_row : Row → Row → Row
and_row r s = binary op.And r s

abbrev pub or_row : Row → Row → Row
or_row r s = binary op.Or r s

abbrev pub xor_row : Row → Row → Row
xor_row r s = binary op.Xor r s

abbrev pub eqv_row : Row → Row → Row
eqv_row r s = unary un.Not (binary op.Xor r s)

abbrev pub imp_row : Row → Row → Row
imp_row r s = binary op.Or (unary un.Not r) s

abbrev pub bits : (Row → Row → Row) → Ty → Ty → NumberKind → NumberKind → Option Written
bits f s t k l =
    let m = whole (wider k l) in written (type_of_kind m) (f (as_kind m s operand_a) (as_kind m t operand_b))

-- a Byte has no Not
abbrev pub signed_bits : (Row → Row → Row) → Ty → Ty → NumberKind → NumberKind → Option Written
signed_bits f s t k l = if is_byte (whole (wider k l)) then None else bits f s t k l

abbrev pub logical : (Row → Row → Row) → (Ty → Ty → NumberKind → NumberKind → Option Written) → Ty → Ty → Option Written
logical f g s t = if is_boolean s && is_boolean t then written types.boolean (f operand_a operand_b) else on_numbers g s t

-- a type whose values are objects
abbrev pub is_reference : Ty → Bool
is_reference types.object = true
is_reference (types.class k) = true
is_reference types.nothing = true
is_reference _ = false

abbrev pub same_object : Ty → Ty → Option Written
same_object s t = if is_reference s && is_reference t then written types.boolean (binary op.Is operand_a operand_b) else None

-- what is written for an operator on operands of two types; none where it isn't translated
abbrev pub write_operator : BinOp → Ty → Ty → Option Written
write_operator b.Pow s t = None
write_operator b.Mul s t = on_numbers product s t
write_operator b.Div s t = None
write_operator b.IntDiv s t = on_numbers (division op.IntDiv) s t
write_operator b.Mod s t = on_numbers (division op.Mod) s t
write_operator b.Add s t = added s t
write_operator b.Sub s t = on_numbers (arithmetic op.Sub) s t
write_operator b.Concat s t = joined s t
write_operator b.Equal s t = comparison op.Equal s t
write_operator b.NotEqual s t = comparison op.NotEqual s t
write_operator b.Less s t = comparison op.Less s t
write_operator b.Greater s t = comparison op.Greater s t
write_operator b.LessEqual s t = comparison op.LessEqual s t
write_operator b.GreaterEqual s t = comparison op.GreaterEqual s t
write_operator b.Is s t = same_object s t
write_operator b.Like s t = None
write_operator b.And s t = logical and_row (bits and_row) s t
write_operator b.Or s t = logical or_row (bits or_row) s t
write_operator b.Xor s t = logical xor_row (bits xor_row) s t
write_operator b.Eqv s t = logical eqv_row (signed_bits eqv_row) s t
write_operator b.Imp s t = logical imp_row (signed_bits imp_row) s t

-- minus of a number, which counts as one of its kind; a Byte has none
abbrev pub negated : Ty → Option NumberKind → Option Written
negated s None = None
negated s (Some k) = if is_byte k then None else written (type_of_kind k) (checked k (unary un.Neg (as_kind k s operand_a)))

abbrev pub turned : Ty → Option NumberKind → Option Written
turned s None = None
turned s (Some k) =
    if is_byte k then None
    else (let m = whole k in written (type_of_kind m) (unary un.Not (as_kind m s operand_a)))

abbrev pub write_unary : UnOp → Ty → Option Written
write_unary u.Neg s = negated s (kind_of s)
write_unary u.Not s = if is_boolean s then written types.boolean (unary un.Not operand_a) else turned s (kind_of s)

-- ---- conversions

-- a number or a Boolean as a Boolean
abbrev pub to_boolean : Ty → Option Row
to_boolean types.boolean = Some operand_a
to_boolean types.byte = Some (cast word.CBool operand_a)
to_boolean types.integer = Some (cast word.CBool operand_a)
to_boolean types.long = Some (cast word.CBool operand_a)
to_boolean types.currency = Some (cast word.CBool operand_a)
to_boolean _ = None

abbrev pub to_kind : NumberKind → Ty → Option NumberKind → Option Row
to_kind k s None = None
to_kind k s (Some l) = Some (as_kind k s operand_a)

-- a text that is cut or padded to a length
abbrev pub to_fixed : ℕ → Option Row → Option Row
to_fixed n None = None
to_fixed n (Some r) = Some (call (fix n) r)

-- a text in a Variant is never Nothing
abbrev pub to_variant : Ty → Option Row
to_variant types.boolean = Some (cast word.CObj operand_a)
to_variant types.byte = Some (cast word.CObj operand_a)
to_variant types.integer = Some (cast word.CObj operand_a)
to_variant types.long = Some (cast word.CObj operand_a)
to_variant types.currency = Some (cast word.CObj operand_a)
to_variant types.str = Some (cast word.CObj (binary op.Concat no_text operand_a))
to_variant (types.fixed n) = Some (cast word.CObj (binary op.Concat no_text operand_a))
to_variant types.variant = Some operand_a
to_variant _ = None

abbrev pub to_object : Ty → Option Row
to_object types.object = Some operand_a
to_object (types.class k) = Some operand_a
to_object types.nothing = Some operand_a
to_object _ = None

abbrev pub to_class : ℕ → Ty → Option Row
to_class k (types.class l) = if nat_eq k l then Some operand_a else None
to_class k types.nothing = Some operand_a
to_class k _ = None

abbrev pub to_nothing : Ty → Option Row
to_nothing types.nothing = Some operand_a
to_nothing _ = None

-- what is written for a conversion from one type to another; none where it isn't translated
abbrev pub write_conversion : (from to : Ty) → Option Row
write_conversion s types.boolean = to_boolean s
write_conversion s types.byte = to_kind kinds.Byte s (kind_of s)
write_conversion s types.integer = to_kind kinds.Integer s (kind_of s)
write_conversion s types.long = to_kind kinds.Long s (kind_of s)
write_conversion s types.currency = to_kind kinds.Currency s (kind_of s)
write_conversion s types.str = as_text s operand_a
write_conversion s (types.fixed n) = to_fixed n (as_text s operand_a)
write_conversion s (types.user k) = None
write_conversion s (types.class k) = to_class k s
write_conversion s types.object = to_object s
write_conversion s types.variant = to_variant s
write_conversion s (types.array element rank) = None
write_conversion s types.nothing = to_nothing s
write_conversion s types.unknown = None

-- what is written for a conversion of a Variant
abbrev pub write_from_variant : (to : Ty) → Option Row
write_from_variant types.boolean = Some (call (var_as types.boolean) operand_a)
write_from_variant types.byte = Some (call (var_as types.byte) operand_a)
write_from_variant types.integer = Some (call (var_as types.integer) operand_a)
write_from_variant types.long = Some (call (var_as types.long) operand_a)
write_from_variant types.currency = Some (call (var_as types.currency) operand_a)
write_from_variant types.str = Some (call var_str operand_a)
write_from_variant types.variant = Some operand_a
write_from_variant _ = None
