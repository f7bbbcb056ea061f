-- Operators on two whole numbers of one type, checked. (Visual Basic Language Specification, arithmetic, relational and
-- logical operators.)
use Rattle.std.specs.Prelude.{ℕ, ◌^◌, nat_lt, Bool, false, if◌then◌else◌, ℤ, pos, negsuc, ◌+ℤ◌, ◌-ℤ◌, ◌*ℤ◌, int_div, int_rem, unsigned_abs}
use Rattle.std.specs.Ordering.{int_cmp, int_eq, is_eq, is_ne, is_lt, is_gt, is_le, is_ge}
use Rattle.vb6_meaning.specs.Answers.{Answer, gives, raises, outside}
use Rattle.std.specs.Int.{w64, int_bit_and, int_bit_or, int_bit_xor}
use Rattle.vb6_meaning.specs.Bits.{bitwise}
use Rattle.vb6_meaning.specs.Values.{both, either, one_alone}
use Rattle.net_tree.specs.declared.expression.NetBin.{NetBin}
use Rattle.net_tree.specs.declared.expression.NetBin.TheVariants as op
use Rattle.net_meaning.specs.declared.value.ValueN.{ValueN}
use Rattle.net_meaning.specs.declared.value.ValueN.TheVariants as v
use Rattle.net_meaning.specs.declared.whole.WholeKind.{WholeKind}
use Rattle.net_meaning.specs.declared.whole.WholeKind.TheVariants.{Byte, Short, Integer, Long}

-- whether a number has at most so many bits beside its sign, in two's complement
abbrev pub is_signed : ℕ → ℤ → Bool
is_signed bits (pos n) = nat_lt n (2 ^ bits)
is_signed bits (negsuc n) = nat_lt n (2 ^ bits)

-- whether a number is one of the type
abbrev pub is_whole : WholeKind → ℤ → Bool
is_whole Byte (pos n) = nat_lt n (2 ^ 8)
is_whole Byte (negsuc n) = false
is_whole Short z = is_signed 15 z
is_whole Integer z = is_signed 31 z
is_whole Long z = is_signed 63 z

-- a number of the type as a value
abbrev pub number : WholeKind → ℤ → ValueN
number Byte z = v.Byte (unsigned_abs z)
number Short z = v.Short z
number Integer z = v.Integer z
number Long z = v.Long z

-- a number as a value of the type, else 6, an overflow
abbrev pub whole : WholeKind → ℤ → Answer ValueN
whole k z = if is_whole k z then gives (number k z) else raises 6

-- the quotient is cut towards zero; 11 is a zero divisor
abbrev pub quotient : WholeKind → ℤ → ℤ → Answer ValueN
quotient k a b = if int_eq b (pos 0) then raises 11 else whole k (int_div a b)

-- the remainder has the sign of the dividend; it has no row where the quotient leaves the type
abbrev pub remainder : WholeKind → ℤ → ℤ → Answer ValueN
remainder k a b =
    if int_eq b (pos 0) then raises 11
    else if is_whole k (int_div a b) then whole k (int_rem a b)
    else outside

-- And, Or and Xor go bit by bit in two's complement, of 64 bits for a Long

abbrev pub and_bits : WholeKind → ℤ → ℤ → ℤ
and_bits Byte a b = bitwise both a b
and_bits Short a b = bitwise both a b
and_bits Integer a b = bitwise both a b
and_bits Long a b = int_bit_and w64 a b

abbrev pub or_bits : WholeKind → ℤ → ℤ → ℤ
or_bits Byte a b = bitwise either a b
or_bits Short a b = bitwise either a b
or_bits Integer a b = bitwise either a b
or_bits Long a b = int_bit_or w64 a b

abbrev pub xor_bits : WholeKind → ℤ → ℤ → ℤ
xor_bits Byte a b = bitwise one_alone a b
xor_bits Short a b = bitwise one_alone a b
xor_bits Integer a b = bitwise one_alone a b
xor_bits Long a b = int_bit_xor w64 a b

abbrev pub whole_row : WholeKind → NetBin → ℤ → ℤ → Answer ValueN
whole_row k op.Add a b = whole k (a +ℤ b)
whole_row k op.Sub a b = whole k (a -ℤ b)
whole_row k op.Mul a b = whole k (a *ℤ b)
whole_row k op.IntDiv a b = quotient k a b
whole_row k op.Mod a b = remainder k a b
whole_row k op.Equal a b = gives (v.Boolean (is_eq (int_cmp a b)))
whole_row k op.NotEqual a b = gives (v.Boolean (is_ne (int_cmp a b)))
whole_row k op.Less a b = gives (v.Boolean (is_lt (int_cmp a b)))
whole_row k op.Greater a b = gives (v.Boolean (is_gt (int_cmp a b)))
whole_row k op.LessEqual a b = gives (v.Boolean (is_le (int_cmp a b)))
whole_row k op.GreaterEqual a b = gives (v.Boolean (is_ge (int_cmp a b)))
whole_row k op.And a b = whole k (and_bits k a b)
whole_row k op.Or a b = whole k (or_bits k a b)
whole_row k op.Xor a b = whole k (xor_bits k a b)
whole_row k op.Concat a b = outside
whole_row k op.Is a b = outside
