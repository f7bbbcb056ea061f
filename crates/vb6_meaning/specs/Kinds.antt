-- The kinds of numbers of Visual Basic 6: which is wider, their limits, and how a number goes from one to another.
use Rattle.std.specs.Prelude.{ℕ, ◌-◌, ◌^◌, nat_lt, Bool, true, false, cond, ◌&&◌, ℤ, pos, negsuc, ◌*ℤ◌, int_le, unsigned_abs}
use Rattle.vb_tree.specs.declared.value.Value6.{Value6}
use Rattle.vb_tree.specs.declared.value.Value6.TheVariants as v
use Rattle.vb6_meaning.specs.declared.number.NumberKind.{NumberKind}
use Rattle.vb6_meaning.specs.declared.number.NumberKind.TheVariants as kinds
use Rattle.vb6_meaning.specs.Answers.{Answer, gives, raises, outside}
use Rattle.vb6_meaning.specs.Rounding.{rounded}

-- each kind is wider than those of lower rank
abbrev pub rank : NumberKind → ℕ
rank kinds.Byte = 0
rank kinds.Integer = 1
rank kinds.Long = 2
rank kinds.Currency = 3

abbrev pub is_byte : NumberKind → Bool
is_byte kinds.Byte = true
is_byte kinds.Integer = false
is_byte kinds.Long = false
is_byte kinds.Currency = false

abbrev pub wider : NumberKind → NumberKind → NumberKind
wider k l = cond (nat_lt (rank k) (rank l)) l k

-- where an operator takes whole numbers alone, a Currency counts as a Long
abbrev pub whole : NumberKind → NumberKind
whole kinds.Byte = kinds.Byte
whole kinds.Integer = kinds.Integer
whole kinds.Long = kinds.Long
whole kinds.Currency = kinds.Long

-- the limits of a kind; those of Currency are in ten-thousandths
abbrev pub least : NumberKind → ℤ
least kinds.Byte = pos 0
least kinds.Integer = negsuc (2 ^ 15 - 1)
least kinds.Long = negsuc (2 ^ 31 - 1)
least kinds.Currency = negsuc (2 ^ 63 - 1)

abbrev pub greatest : NumberKind → ℤ
greatest kinds.Byte = pos (2 ^ 8 - 1)
greatest kinds.Integer = pos (2 ^ 15 - 1)
greatest kinds.Long = pos (2 ^ 31 - 1)
greatest kinds.Currency = pos (2 ^ 63 - 1)

abbrev pub fits : NumberKind → ℤ → Bool
fits k z = int_le (least k) z && int_le z (greatest k)

-- the value that a number within the limits is
abbrev pub value : NumberKind → ℤ → Value6
value kinds.Byte z = v.Byte (unsigned_abs z)
value kinds.Integer z = v.Int z
value kinds.Long z = v.Long z
value kinds.Currency z = v.Cur z

-- a number in ones; a Currency is rounded half to even
abbrev pub ones : NumberKind → ℤ → ℤ
ones kinds.Byte z = z
ones kinds.Integer z = z
ones kinds.Long z = z
ones kinds.Currency z = rounded z 10000

-- a number in ten-thousandths
abbrev pub ten_thousandths : NumberKind → ℤ → ℤ
ten_thousandths kinds.Byte z = pos 10000 *ℤ z
ten_thousandths kinds.Integer z = pos 10000 *ℤ z
ten_thousandths kinds.Long z = pos 10000 *ℤ z
ten_thousandths kinds.Currency z = z

-- error 6 is overflow
abbrev pub checked : NumberKind → ℤ → Answer ℤ
checked k z = cond (fits k z) (gives z) (raises 6)

abbrev pub checked_value : NumberKind → ℤ → Answer Value6
checked_value k z = cond (fits k z) (gives (value k z)) (raises 6)

-- A Variant's result goes to the first kind from its own on that holds it. Past Long and Currency it would be a floating
-- value, which lies outside.
abbrev pub promoted_long : ℤ → Answer Value6
promoted_long z = cond (fits kinds.Long z) (gives (value kinds.Long z)) outside

abbrev pub promoted_integer : ℤ → Answer Value6
promoted_integer z = cond (fits kinds.Integer z) (gives (value kinds.Integer z)) (promoted_long z)

abbrev pub promoted : NumberKind → ℤ → Answer Value6
promoted kinds.Byte z = cond (fits kinds.Byte z) (gives (value kinds.Byte z)) (promoted_integer z)
promoted kinds.Integer z = promoted_integer z
promoted kinds.Long z = promoted_long z
promoted kinds.Currency z = cond (fits kinds.Currency z) (gives (value kinds.Currency z)) outside
