-- The operators, on values of one type. (Visual Basic Language Specification, operators.)
use Rattle.std.specs.Prelude.{ℕ, nat_eq, Bool, true, false, not, ℤ, pos, neg_ℤ, List, [], ◌++◌}
use Rattle.std.specs.Ordering.{nat_cmp, bool_cmp, is_eq, is_ne, is_lt, is_gt, is_le, is_ge}
use Rattle.std.specs.Cmp.Lexicographic.{slice_cmp}
use Rattle.vb6_meaning.specs.Answers.{Answer, gives, outside}
use Rattle.vb6_meaning.specs.Values.{both, either, one_alone, complement}
use Rattle.net_tree.specs.declared.expression.NetBin.{NetBin}
use Rattle.net_tree.specs.declared.expression.NetBin.TheVariants as op
use Rattle.net_tree.specs.declared.expression.NetUn.{NetUn}
use Rattle.net_tree.specs.declared.expression.NetUn.TheVariants as un
use Rattle.net_tree.specs.declared.expression.OpN.{OpN}
use Rattle.net_tree.specs.declared.expression.OpN.TheVariants.{Bin, Un}
use Rattle.net_meaning.specs.declared.value.ValueN.{ValueN}
use Rattle.net_meaning.specs.declared.value.ValueN.TheVariants as v
use Rattle.net_meaning.specs.declared.whole.WholeKind.TheVariants.{Byte, Short, Integer, Long}
use Rattle.net_meaning.specs.Whole.{whole_row, whole}
use Rattle.net_meaning.specs.Decimals.{decimal_row, minus_decimal}

-- two Booleans, of which True is below False
abbrev pub boolean_row : NetBin → Bool → Bool → Answer ValueN
boolean_row op.Equal p q = gives (v.Boolean (is_eq (bool_cmp q p)))
boolean_row op.NotEqual p q = gives (v.Boolean (is_ne (bool_cmp q p)))
boolean_row op.Less p q = gives (v.Boolean (is_lt (bool_cmp q p)))
boolean_row op.Greater p q = gives (v.Boolean (is_gt (bool_cmp q p)))
boolean_row op.LessEqual p q = gives (v.Boolean (is_le (bool_cmp q p)))
boolean_row op.GreaterEqual p q = gives (v.Boolean (is_ge (bool_cmp q p)))
boolean_row op.And p q = gives (v.Boolean (both p q))
boolean_row op.Or p q = gives (v.Boolean (either p q))
boolean_row op.Xor p q = gives (v.Boolean (one_alone p q))
boolean_row _ p q = outside

-- two texts, compared by their units
abbrev pub text_row : NetBin → List ℕ → List ℕ → Answer ValueN
text_row op.Concat s t = gives (v.Str (s ++ t))
text_row op.Equal s t = gives (v.Boolean (is_eq (slice_cmp nat_cmp s t)))
text_row op.NotEqual s t = gives (v.Boolean (is_ne (slice_cmp nat_cmp s t)))
text_row op.Less s t = gives (v.Boolean (is_lt (slice_cmp nat_cmp s t)))
text_row op.Greater s t = gives (v.Boolean (is_gt (slice_cmp nat_cmp s t)))
text_row op.LessEqual s t = gives (v.Boolean (is_le (slice_cmp nat_cmp s t)))
text_row op.GreaterEqual s t = gives (v.Boolean (is_ge (slice_cmp nat_cmp s t)))
text_row _ s t = outside

-- a value beside another one, which has to be of the same type

abbrev pub boolean_beside : NetBin → Bool → ValueN → Answer ValueN
boolean_beside op p (v.Boolean q) = boolean_row op p q
boolean_beside op p _ = outside

abbrev pub byte_beside : NetBin → ℕ → ValueN → Answer ValueN
byte_beside op m (v.Byte n) = whole_row Byte op (pos m) (pos n)
byte_beside op m _ = outside

abbrev pub short_beside : NetBin → ℤ → ValueN → Answer ValueN
short_beside op a (v.Short b) = whole_row Short op a b
short_beside op a _ = outside

abbrev pub integer_beside : NetBin → ℤ → ValueN → Answer ValueN
integer_beside op a (v.Integer b) = whole_row Integer op a b
integer_beside op a _ = outside

abbrev pub long_beside : NetBin → ℤ → ValueN → Answer ValueN
long_beside op a (v.Long b) = whole_row Long op a b
long_beside op a _ = outside

abbrev pub decimal_beside : NetBin → ℤ → ℕ → ValueN → Answer ValueN
decimal_beside op m s (v.Decimal n t) = decimal_row op m s n t
decimal_beside op m s _ = outside

-- Nothing counts as the empty text
abbrev pub text_beside : NetBin → List ℕ → ValueN → Answer ValueN
text_beside op s (v.Str t) = text_row op s t
text_beside op s v.Nothing = text_row op s []
text_beside op s _ = outside

abbrev pub row : NetBin → ValueN → ValueN → Answer ValueN
row op (v.Boolean p) y = boolean_beside op p y
row op (v.Byte m) y = byte_beside op m y
row op (v.Short a) y = short_beside op a y
row op (v.Integer a) y = integer_beside op a y
row op (v.Long a) y = long_beside op a y
row op (v.Decimal m s) y = decimal_beside op m s y
row op (v.Str s) y = text_beside op s y
row op v.Nothing y = text_beside op [] y
row op (v.Object k) y = outside
row op (v.Array k) y = outside

-- Is: two objects are the same one, or both values are Nothing, or one is and the other isn't

abbrev pub is_nothing : ValueN → Bool
is_nothing v.Nothing = true
is_nothing _ = false

abbrev pub object_is : ℕ → ValueN → Answer ValueN
object_is m (v.Object n) = gives (v.Boolean (nat_eq m n))
object_is m v.Nothing = gives (v.Boolean false)
object_is m _ = outside

abbrev pub value_is : ValueN → Answer ValueN
value_is v.Nothing = gives (v.Boolean false)
value_is _ = outside

abbrev pub same : ValueN → ValueN → Answer ValueN
same v.Nothing y = gives (v.Boolean (is_nothing y))
same (v.Object m) y = object_is m y
same _ y = value_is y

abbrev pub binary : NetBin → ValueN → ValueN → Answer ValueN
binary op.Is x y = same x y
binary op x y = row op x y

abbrev pub minus : ValueN → Answer ValueN
minus (v.Short z) = whole Short (neg_ℤ z)
minus (v.Integer z) = whole Integer (neg_ℤ z)
minus (v.Long z) = whole Long (neg_ℤ z)
minus (v.Decimal m s) = minus_decimal m s
minus _ = outside

abbrev pub complemented : ValueN → Answer ValueN
complemented (v.Boolean p) = gives (v.Boolean (not p))
complemented (v.Short z) = gives (v.Short (complement z))
complemented (v.Integer z) = gives (v.Integer (complement z))
complemented (v.Long z) = gives (v.Long (complement z))
complemented _ = outside

abbrev pub unary : NetUn → ValueN → Answer ValueN
unary un.Neg x = minus x
unary un.Not x = complemented x

-- the answer of an operator; a unary one passes over its second operand
abbrev pub operate_net : OpN → ValueN → ValueN → Answer ValueN
operate_net (Bin op) x y = binary op x y
operate_net (Un op) x y = unary op x
