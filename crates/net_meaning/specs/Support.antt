-- What the support functions give, those of values. (The functions that put out or take in a text, that raise a number or read
-- the Err number, or that ask an array, belong to runs.)
use Rattle.std.specs.Prelude.{ℕ, ◌+◌, ◌-◌, ◌^◌, max, nat_le, Bool, if◌then◌else◌, ◌&&◌, ◌||◌, ℤ, pos, negsuc, ◌-ℤ◌, ◌*ℤ◌, int_div, int_le, int_lt, [], replicate, Option, Some, None}
use Rattle.std.specs.Ordering.{is_lt, is_gt}
use Rattle.std.specs.declared.cmp.Ordering.{Ordering}
use Rattle.std.specs.declared.cmp.Ordering.TheVariants.{Less, Equal, Greater}
use Rattle.vb_tree.specs.BoundTree.{Ty}
use Rattle.vb_tree.specs.declared.bound.Op6.{Op6}
use Rattle.vb_tree.specs.declared.bound.Op6.TheVariants.{Variant, VariantUn}
use Rattle.vb_tree.specs.declared.expression.BinOp.TheVariants as b
use Rattle.vb_tree.specs.declared.expression.UnOp.TheVariants as u
use Rattle.vb_tree.specs.declared.value.Value6.{Value6}
use Rattle.vb_tree.specs.declared.value.Value6.TheVariants as v
use Rattle.vb6_meaning.specs.Answers.{Answer, gives, raises, outside, then_answer}
use Rattle.vb6_meaning.specs.declared.number.NumberKind.TheVariants as kinds
use Rattle.vb6_meaning.specs.Kinds.{fits}
use Rattle.vb6_meaning.specs.NumberTexts.{currency_text, printed_number, text_of, print_text}
use Rattle.vb6_meaning.specs.Values.{fixed_text, coerce, operate, held_order}
use Rattle.net_meaning.specs.declared.value.ValueN.{ValueN}
use Rattle.net_meaning.specs.declared.value.ValueN.TheVariants as n
use Rattle.net_meaning.specs.Decimals.{is_decimal, order}

-- ---- Currencies

-- the limits of Currency, in ten-thousandths
abbrev pub least_currency : ℤ
least_currency = negsuc (2 ^ 63 - 1)

abbrev pub greatest_currency : ℤ
greatest_currency = pos (2 ^ 63 - 1)

-- whether a Decimal lies outside the range of Currency
abbrev pub is_past_currency : ℤ → ℕ → Bool
is_past_currency m s = is_lt (order m s least_currency 4) || is_gt (order m s greatest_currency 4)

-- `Cur`: a Decimal within the range of Currency, else 6
abbrev pub cur : ValueN → Answer ValueN
cur (n.Decimal m s) =
    if is_decimal m s then (if is_past_currency m s then raises 6 else gives (n.Decimal m s)) else outside
cur _ = outside

-- a Decimal of at most four decimals in ten-thousandths
abbrev pub ten_thousandths : ℤ → ℕ → ℤ
ten_thousandths m s = m *ℤ pos (10 ^ (4 - s))

-- `CurText`: the text of a Decimal of at most four decimals
abbrev pub cur_text : ValueN → Answer ValueN
cur_text (n.Decimal m s) = if nat_le s 4 then gives (n.Str (currency_text (ten_thousandths m s))) else outside
cur_text _ = outside

-- `PrintNum`: the same with a blank or its minus in front, and a blank behind
abbrev pub print_num : ValueN → Answer ValueN
print_num (n.Decimal m s) = if nat_le s 4 then gives (n.Str (printed_number m (currency_text (ten_thousandths m s)))) else outside
print_num _ = outside

-- ---- indexes

abbrev pub is_index : ℤ → Bool
is_index z = int_le (pos 0) z && int_le z (pos 2147483647)

-- `At`: an index from its lower bound; -1 where that is no index
abbrev pub at : (index lower : ℤ) → ℤ
at i l = if is_index (i -ℤ l) then i -ℤ l else negsuc 0

-- `Top`: the extent of an upper bound h from a lower one; 9 where h is below it, 6 where the extent is no Integer
abbrev pub top : (upper lower : ℤ) → Answer ValueN
top h l = if int_lt h l then raises 9 else (if is_index (h -ℤ l) then gives (n.Integer (h -ℤ l)) else raises 6)

-- ---- fixed strings

-- `Fix`: a text cut to n units, or padded with blanks; Nothing is the empty one
abbrev pub fix : ValueN → ℕ → Answer ValueN
fix (n.Str units) length = gives (n.Str (fixed_text length units))
fix n.Nothing length = gives (n.Str (fixed_text length []))
fix _ length = outside

-- `FixNew`: n units 0
abbrev pub fix_new : ℕ → ValueN
fix_new length = n.Str (replicate length 0)

-- ---- Variants

-- the Variant that a value matches
abbrev pub currency_of : ℤ → Bool → Option Value6
currency_of z held = if held && fits kinds.Currency z then Some (v.Cur z) else None

abbrev pub variant_of : ValueN → Option Value6
variant_of (n.Boolean p) = Some (v.Boolean p)
variant_of (n.Byte m) = Some (v.Byte m)
variant_of (n.Short z) = Some (v.Int z)
variant_of (n.Integer z) = Some (v.Long z)
variant_of (n.Long z) = None
variant_of (n.Decimal m s) = currency_of (ten_thousandths m s) (nat_le s 4)
variant_of (n.Str units) = Some (v.Str units)
variant_of n.Nothing = Some v.Empty
variant_of (n.Object k) = None
variant_of (n.Array k) = None

-- the value that matches a Variant, a Currency at a scale
abbrev pub of_variant : (scale : ℕ) → Value6 → Answer ValueN
of_variant s (v.Boolean p) = gives (n.Boolean p)
of_variant s (v.Byte m) = gives (n.Byte m)
of_variant s (v.Int z) = gives (n.Short z)
of_variant s (v.Long z) = gives (n.Integer z)
of_variant s (v.Cur z) = gives (n.Decimal (int_div z (pos (10 ^ (4 - s)))) s)
of_variant s (v.Str units) = gives (n.Str units)
of_variant s v.Nothing = outside
of_variant s (v.Object k) = outside
of_variant s v.Empty = gives n.Nothing

-- what isn't a Decimal has scale 0
abbrev pub scale_of : ValueN → ℕ
scale_of (n.Decimal m s) = s
scale_of _ = 0

abbrev pub on_variant : {A : Type 0} → (Value6 → Answer A) → Option Value6 → Answer A
on_variant f None = outside
on_variant f (Some a) = f a

abbrev pub on_variants : {A : Type 0} → (Value6 → Value6 → Answer A) → ValueN → ValueN → Answer A
on_variants f x y = on_variant (λ a. on_variant (λ c. f a c) (variant_of y)) (variant_of x)

-- a row of two Variants at a scale
abbrev pub var_row : Op6 → (scale : ℕ) → ValueN → ValueN → Answer ValueN
var_row op s x y = then_answer (on_variants (operate op) x y) (of_variant s)

-- a sum and a difference have the larger scale, a product has the sum of both; the others are whole numbers
abbrev pub var_add : ValueN → ValueN → Answer ValueN
var_add x y = var_row (Variant b.Add) (max (scale_of x) (scale_of y)) x y

abbrev pub var_sub : ValueN → ValueN → Answer ValueN
var_sub x y = var_row (Variant b.Sub) (max (scale_of x) (scale_of y)) x y

abbrev pub var_mul : ValueN → ValueN → Answer ValueN
var_mul x y = var_row (Variant b.Mul) (scale_of x + scale_of y) x y

abbrev pub var_div : ValueN → ValueN → Answer ValueN
var_div x y = var_row (Variant b.IntDiv) 0 x y

abbrev pub var_mod : ValueN → ValueN → Answer ValueN
var_mod x y = var_row (Variant b.Mod) 0 x y

abbrev pub var_and : ValueN → ValueN → Answer ValueN
var_and x y = var_row (Variant b.And) 0 x y

abbrev pub var_or : ValueN → ValueN → Answer ValueN
var_or x y = var_row (Variant b.Or) 0 x y

abbrev pub var_xor : ValueN → ValueN → Answer ValueN
var_xor x y = var_row (Variant b.Xor) 0 x y

abbrev pub var_neg : ValueN → Answer ValueN
var_neg x = var_row (VariantUn u.Neg) (scale_of x) x x

abbrev pub var_not : ValueN → Answer ValueN
var_not x = var_row (VariantUn u.Not) 0 x x

-- `VarBool`, `VarByte`, `VarShort`, `VarInt` and `VarCur`, by the type to which they convert; a Decimal keeps its scale
abbrev pub var_as : Ty → ValueN → Answer ValueN
var_as t x = then_answer (on_variant (λ a. coerce a t) (variant_of x)) (of_variant (scale_of x))

-- `VarStr`: the text of a Variant, and Nothing for Nothing
abbrev pub var_str : ValueN → Answer ValueN
var_str n.Nothing = gives n.Nothing
var_str x = then_answer (on_variant text_of (variant_of x)) (λ units. gives (n.Str units))

-- `PrintVar`: the text that is printed of a Variant, and Nothing for Nothing
abbrev pub print_var : ValueN → Answer ValueN
print_var n.Nothing = gives n.Nothing
print_var x = then_answer (on_variant print_text (variant_of x)) (λ units. gives (n.Str units))

abbrev pub sign_of : Ordering → ℤ
sign_of Less = negsuc 0
sign_of Equal = pos 0
sign_of Greater = pos 1

-- `VarComp`: -1, 0 or 1, as the first Variant is below, level with or above the second
abbrev pub var_comp : ValueN → ValueN → Answer ValueN
var_comp x y = then_answer (on_variants held_order x y) (λ o. gives (n.Integer (sign_of o)))
