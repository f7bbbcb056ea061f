-- Operators on two Decimals. (Visual Basic Language Specification, Decimal.)
use Rattle.std.specs.Prelude.{ℕ, ◌+◌, ◌-◌, ◌^◌, max, nat_lt, nat_le, Bool, ◌&&◌, if◌then◌else◌, ℤ, pos, ◌+ℤ◌, ◌-ℤ◌, ◌*ℤ◌, neg_ℤ, unsigned_abs}
use Rattle.std.specs.Ordering.{int_cmp, is_eq, is_ne, is_lt, is_gt, is_le, is_ge}
use Rattle.std.specs.declared.cmp.Ordering.{Ordering}
use Rattle.vb6_meaning.specs.Answers.{Answer, gives, outside}
use Rattle.net_tree.specs.declared.expression.NetBin.{NetBin}
use Rattle.net_tree.specs.declared.expression.NetBin.TheVariants as op
use Rattle.net_meaning.specs.declared.value.ValueN.{ValueN}
use Rattle.net_meaning.specs.declared.value.ValueN.TheVariants as v

-- a mantissa has at most 96 bits beside its sign, and a scale is at most 28
abbrev pub is_decimal : ℤ → ℕ → Bool
is_decimal mantissa scale = nat_lt (unsigned_abs mantissa) (2 ^ 96) && nat_le scale 28

-- a number as a Decimal, where it is one
abbrev pub decimal : ℤ → ℕ → Answer ValueN
decimal mantissa scale = if is_decimal mantissa scale then gives (v.Decimal mantissa scale) else outside

-- the mantissa of a number at a larger scale
abbrev pub at_scale : ℤ → (scale larger : ℕ) → ℤ
at_scale mantissa scale larger = mantissa *ℤ pos (10 ^ (larger - scale))

-- an operator on the mantissas of two numbers at the larger of their scales
abbrev pub on_larger : {A : Type 0} → (ℤ → ℤ → A) → (m : ℤ) (s : ℕ) (n : ℤ) (t : ℕ) → A
on_larger f m s n t = f (at_scale m s (max s t)) (at_scale n t (max s t))

abbrev pub order : (m : ℤ) (s : ℕ) (n : ℤ) (t : ℕ) → Ordering
order m s n t = on_larger int_cmp m s n t

-- a sum and a difference have the larger scale, a product has the sum of both
abbrev pub decimals : NetBin → (m : ℤ) (s : ℕ) (n : ℤ) (t : ℕ) → Answer ValueN
decimals op.Add m s n t = decimal (on_larger (λ x y. x +ℤ y) m s n t) (max s t)
decimals op.Sub m s n t = decimal (on_larger (λ x y. x -ℤ y) m s n t) (max s t)
decimals op.Mul m s n t = decimal (m *ℤ n) (s + t)
decimals op.Equal m s n t = gives (v.Boolean (is_eq (order m s n t)))
decimals op.NotEqual m s n t = gives (v.Boolean (is_ne (order m s n t)))
decimals op.Less m s n t = gives (v.Boolean (is_lt (order m s n t)))
decimals op.Greater m s n t = gives (v.Boolean (is_gt (order m s n t)))
decimals op.LessEqual m s n t = gives (v.Boolean (is_le (order m s n t)))
decimals op.GreaterEqual m s n t = gives (v.Boolean (is_ge (order m s n t)))
decimals _ m s n t = outside

abbrev pub decimal_row : NetBin → (m : ℤ) (s : ℕ) (n : ℤ) (t : ℕ) → Answer ValueN
decimal_row op m s n t = if is_decimal m s && is_decimal n t then decimals op m s n t else outside

abbrev pub minus_decimal : ℤ → ℕ → Answer ValueN
minus_decimal m s = if is_decimal m s then gives (v.Decimal (neg_ℤ m) s) else outside
