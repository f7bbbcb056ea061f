-- The conversions and operators of Visual Basic 6, value by value. A pair without a row lies outside.
use Rattle.std.specs.Prelude.{ℕ, ◌-◌, ◌^◌, nat_eq, nat_lt, Bool, true, false, not, cond, ◌&&◌, ◌||◌, ℤ, pos, negsuc, ◌+ℤ◌, ◌-ℤ◌, ◌*ℤ◌, neg_ℤ, int_div, int_rem, List, [], ◌++◌, length, take, replicate, Option, Some, None}
use Rattle.std.specs.Ordering.{nat_cmp, int_cmp, int_eq, is_eq, is_ne, is_lt, is_gt, is_le, is_ge}
use Rattle.std.specs.declared.cmp.Ordering.{Ordering}
use Rattle.std.specs.Cmp.Lexicographic.{slice_cmp}
use Rattle.vb_tree.specs.BoundTree.{Ty, boolean, byte, integer, long, currency, str, fixed, user, class, object, variant, array, nothing, unknown}
use Rattle.vb_tree.specs.declared.bound.Op6.{Op6}
use Rattle.vb_tree.specs.declared.bound.Op6.TheVariants.{Typed, Variant, TypedUn, VariantUn}
use Rattle.vb_tree.specs.declared.expression.BinOp.{BinOp}
use Rattle.vb_tree.specs.declared.expression.BinOp.TheVariants as b
use Rattle.vb_tree.specs.declared.expression.UnOp.{UnOp}
use Rattle.vb_tree.specs.declared.expression.UnOp.TheVariants as u
use Rattle.vb_tree.specs.declared.value.Value6.{Value6}
use Rattle.vb_tree.specs.declared.value.Value6.TheVariants as v
use Rattle.vb6_meaning.specs.Answers.{Answer, gives, raises, outside, then_answer}
use Rattle.vb6_meaning.specs.Bits.{bitwise}
use Rattle.vb6_meaning.specs.declared.number.Number.{Number}
use Rattle.vb6_meaning.specs.declared.number.NumberKind.{NumberKind}
use Rattle.vb6_meaning.specs.declared.number.NumberKind.TheVariants as kinds
use Rattle.vb6_meaning.specs.Kinds.{wider, whole, is_byte, least, value, checked, checked_value, promoted}
use Rattle.vb6_meaning.specs.Numbers.{of_kind, number_of, amount_in}
use Rattle.vb6_meaning.specs.NumberTexts.{text_of}

-- ---- texts

-- a text that a computation makes; one of more than 2,147,483,647 units lies outside
abbrev pub text : List ℕ → Answer Value6
text units = cond (nat_lt (length units) (2 ^ 31)) (gives (v.Str units)) outside

-- a text cut to n units, or padded with blanks
abbrev pub fixed_text : ℕ → List ℕ → List ℕ
fixed_text n units = take n units ++ replicate (n - length units) 32

-- ---- conversions

abbrev pub is_nonzero : ℤ → Bool
is_nonzero z = not (int_eq z (pos 0))

abbrev pub to_boolean : Value6 → Answer Value6
to_boolean (v.Boolean b) = gives (v.Boolean b)
to_boolean (v.Byte n) = gives (v.Boolean (is_nonzero (pos n)))
to_boolean (v.Int z) = gives (v.Boolean (is_nonzero z))
to_boolean (v.Long z) = gives (v.Boolean (is_nonzero z))
to_boolean (v.Cur z) = gives (v.Boolean (is_nonzero z))
to_boolean (v.Str units) = outside
to_boolean v.Nothing = outside
to_boolean (v.Object number) = outside
to_boolean v.Empty = gives (v.Boolean false)

-- True is -1, and 255 as a Byte
abbrev pub truth : NumberKind → Bool → ℤ
truth k false = pos 0
truth kinds.Byte true = pos 255
truth kinds.Integer true = negsuc 0
truth kinds.Long true = negsuc 0
truth kinds.Currency true = negsuc 9999

abbrev pub to_number : NumberKind → Value6 → Answer Value6
to_number k (v.Boolean b) = gives (value k (truth k b))
to_number k (v.Byte n) = checked_value k (amount_in k (of_kind kinds.Byte (pos n)))
to_number k (v.Int z) = checked_value k (amount_in k (of_kind kinds.Integer z))
to_number k (v.Long z) = checked_value k (amount_in k (of_kind kinds.Long z))
to_number k (v.Cur z) = checked_value k (amount_in k (of_kind kinds.Currency z))
to_number k (v.Str units) = outside
to_number k v.Nothing = outside
to_number k (v.Object number) = outside
to_number k v.Empty = gives (value k (pos 0))

-- an object goes to Object and to each class type, since its class is known to the store alone
abbrev pub to_object : Value6 → Answer Value6
to_object v.Nothing = gives v.Nothing
to_object (v.Object number) = gives (v.Object number)
to_object w = outside

-- no Variant holds an object
abbrev pub to_variant : Value6 → Answer Value6
to_variant v.Nothing = outside
to_variant (v.Object number) = outside
to_variant w = gives w

abbrev pub to_nothing : Value6 → Answer Value6
to_nothing v.Nothing = gives v.Nothing
to_nothing w = outside

-- the value of a type that a value is converted to
abbrev pub coerce : Value6 → Ty → Answer Value6
coerce w boolean = to_boolean w
coerce w byte = to_number kinds.Byte w
coerce w integer = to_number kinds.Integer w
coerce w long = to_number kinds.Long w
coerce w currency = to_number kinds.Currency w
coerce w str = then_answer (text_of w) (λ units. gives (v.Str units))
coerce w (fixed n) = then_answer (text_of w) (λ units. text (fixed_text n units))
coerce w (user k) = outside
coerce w (class k) = to_object w
coerce w object = to_object w
coerce w variant = to_variant w
coerce w (array element rank) = outside
coerce w nothing = to_nothing w
coerce w unknown = outside

-- ---- operators on two numbers

-- an operator on the numbers that two values are
abbrev pub on_numbers : {A : Type 0} → (Number → Number → Answer A) → Option Number → Option Number → Answer A
on_numbers row (Some x) (Some y) = row x y
on_numbers row (Some x) None = outside
on_numbers row None y = outside

-- the wider of two kinds, and the same for operators that take whole numbers alone
abbrev pub common : Number → Number → NumberKind
common x y = wider x.kind y.kind

abbrev pub common_whole : Number → Number → NumberKind
common_whole x y = whole (wider x.kind y.kind)

-- A sum, a difference and a product are of the wider kind, to which both are converted. The answer of that kind is made by
-- `made`. Two Currencies have no product.
abbrev pub sum : (made : NumberKind → ℤ → Answer Value6) → Number → Number → Answer Value6
sum made x y = let k = common x y in made k (amount_in k x +ℤ amount_in k y)

abbrev pub difference : (made : NumberKind → ℤ → Answer Value6) → Number → Number → Answer Value6
difference made x y = let k = common x y in made k (amount_in k x -ℤ amount_in k y)

abbrev pub are_currencies : NumberKind → NumberKind → Bool
are_currencies kinds.Currency kinds.Currency = true
are_currencies k l = false

-- one factor at most is in ten-thousandths, and then the product is
abbrev pub product : (made : NumberKind → ℤ → Answer Value6) → Number → Number → Answer Value6
product made x y = cond (are_currencies x.kind y.kind) outside (made (common x y) (x.amount *ℤ y.amount))

-- goes on with both numbers in the kind that the operator takes them in; the first may overflow, then the second
abbrev pub converted : {A : Type 0} → NumberKind → Number → Number → (ℤ → ℤ → Answer A) → Answer A
converted k x y next =
    then_answer (checked k (amount_in k x)) (λ p. then_answer (checked k (amount_in k y)) (λ q. next p q))

-- error 11 is division by zero; the least value by -1 lies outside
abbrev pub divided : (ℤ → ℤ → ℤ) → NumberKind → ℤ → ℤ → Answer Value6
divided by k p q = cond (int_eq q (pos 0)) (raises 11)
    (cond (int_eq q (negsuc 0) && int_eq p (least k)) outside (gives (value k (by p q))))

-- `\` drops the fraction, and the sign of `Mod` is that of the first operand
abbrev pub quotient : Number → Number → Answer Value6
quotient x y = let k = common_whole x y in converted k x y (divided int_div k)

abbrev pub remainder : Number → Number → Answer Value6
remainder x y = let k = common_whole x y in converted k x y (divided int_rem k)

-- ---- And, Or, Xor, Eqv and Imp, on one bit

abbrev pub both : Bool → Bool → Bool
both p q = p && q

abbrev pub either : Bool → Bool → Bool
either p q = p || q

abbrev pub one_alone : Bool → Bool → Bool
one_alone p q = cond p (not q) q

abbrev pub alike : Bool → Bool → Bool
alike p q = not (one_alone p q)

abbrev pub implies : Bool → Bool → Bool
implies p q = not p || q

-- ---- the same on the bits of numbers

abbrev pub bits : (Bool → Bool → Bool) → Number → Number → Answer Value6
bits f x y = let k = common_whole x y in converted k x y (λ p q. gives (value k (bitwise f p q)))

-- Eqv and Imp have no row where the result would be a Byte
abbrev pub signed_bits : (Bool → Bool → Bool) → Number → Number → Answer Value6
signed_bits f x y = cond (is_byte (common_whole x y)) outside (bits f x y)

-- two Booleans, or else two numbers
abbrev pub logical : (Bool → Bool → Bool) → (Number → Number → Answer Value6) → Value6 → Value6 → Answer Value6
logical f row (v.Boolean p) (v.Boolean q) = gives (v.Boolean (f p q))
logical f row w x = on_numbers row (number_of w) (number_of x)

-- ---- comparisons

-- two texts by their units; or two numbers in the wider kind, where True is -1 and so below False
abbrev pub number_order : Number → Number → Answer Ordering
number_order x y = let k = common x y in gives (int_cmp (amount_in k x) (amount_in k y))

abbrev pub order : Value6 → Value6 → Answer Ordering
order (v.Str s) (v.Str t) = gives (slice_cmp nat_cmp s t)
order w x = on_numbers number_order (number_of w) (number_of x)

-- a comparison by a test of the order
abbrev pub compared : (Ordering → Bool) → Answer Ordering → Answer Value6
compared test o = then_answer o (λ o. gives (v.Boolean (test o)))

-- ---- the other typed rows

-- `+` joins two texts, and is a sum on numbers
abbrev pub added : Value6 → Value6 → Answer Value6
added (v.Str s) (v.Str t) = text (s ++ t)
added w x = on_numbers (sum checked_value) (number_of w) (number_of x)

-- `&` joins the texts of two values
abbrev pub joined : Value6 → Value6 → Answer Value6
joined w x = then_answer (text_of w) (λ s. then_answer (text_of x) (λ t. text (s ++ t)))

-- whether two objects are the same
abbrev pub same_object : Value6 → Value6 → Answer Value6
same_object v.Nothing v.Nothing = gives (v.Boolean true)
same_object v.Nothing (v.Object m) = gives (v.Boolean false)
same_object (v.Object m) v.Nothing = gives (v.Boolean false)
same_object (v.Object m) (v.Object n) = gives (v.Boolean (nat_eq m n))
same_object w x = outside

-- The typed row of an operator. It converts its operands to the kind that it takes them in, so they may differ in kind.
abbrev pub typed : BinOp → Value6 → Value6 → Answer Value6
typed b.Pow w x = outside
typed b.Mul w x = on_numbers (product checked_value) (number_of w) (number_of x)
typed b.Div w x = outside
typed b.IntDiv w x = on_numbers quotient (number_of w) (number_of x)
typed b.Mod w x = on_numbers remainder (number_of w) (number_of x)
typed b.Add w x = added w x
typed b.Sub w x = on_numbers (difference checked_value) (number_of w) (number_of x)
typed b.Concat w x = joined w x
typed b.Equal w x = compared is_eq (order w x)
typed b.NotEqual w x = compared is_ne (order w x)
typed b.Less w x = compared is_lt (order w x)
typed b.Greater w x = compared is_gt (order w x)
typed b.LessEqual w x = compared is_le (order w x)
typed b.GreaterEqual w x = compared is_ge (order w x)
typed b.Is w x = same_object w x
typed b.Like w x = outside
typed b.And w x = logical both (bits both) w x
typed b.Or w x = logical either (bits either) w x
typed b.Xor w x = logical one_alone (bits one_alone) w x
typed b.Eqv w x = logical alike (signed_bits alike) w x
typed b.Imp w x = logical implies (signed_bits implies) w x

-- minus and Not of a number that isn't a Byte
abbrev pub negative : (made : NumberKind → ℤ → Answer Value6) → Option Number → Answer Value6
negative made None = outside
negative made (Some x) = cond (is_byte x.kind) outside (made x.kind (neg_ℤ x.amount))

-- all bits turned
abbrev pub complement : ℤ → ℤ
complement (pos m) = negsuc m
complement (negsuc m) = pos m

abbrev pub complemented : Option Number → Answer Value6
complemented None = outside
complemented (Some x) = let k = whole x.kind in
    cond (is_byte k) outside (then_answer (checked k (amount_in k x)) (λ p. gives (value k (complement p))))

abbrev pub negation : Value6 → Answer Value6
negation (v.Boolean p) = gives (v.Boolean (not p))
negation w = complemented (number_of w)

abbrev pub typed_unary : UnOp → Value6 → Answer Value6
typed_unary u.Neg w = negative checked_value (number_of w)
typed_unary u.Not w = negation w

-- ---- rows of Variants

-- in arithmetic and comparisons Empty counts as the Integer 0
abbrev pub held_number : Value6 → Option Number
held_number v.Empty = Some (of_kind kinds.Integer (pos 0))
held_number w = number_of w

-- `+` joins texts; beside a text Empty counts as the empty one, and a number lies outside
abbrev pub held_sum : Value6 → Value6 → Answer Value6
held_sum (v.Str s) (v.Str t) = text (s ++ t)
held_sum (v.Str s) v.Empty = text s
held_sum v.Empty (v.Str t) = text t
held_sum w x = on_numbers (sum promoted) (held_number w) (held_number x)

abbrev pub held_order : Value6 → Value6 → Answer Ordering
held_order (v.Str s) (v.Str t) = gives (slice_cmp nat_cmp s t)
held_order (v.Str s) v.Empty = gives (slice_cmp nat_cmp s [])
held_order v.Empty (v.Str t) = gives (slice_cmp nat_cmp [] t)
held_order w x = on_numbers number_order (held_number w) (held_number x)

-- The Variant row of an operator. Logical operators are as the typed ones, so Empty lies outside; Eqv is Not of Xor, and Imp
-- is Not of the first operand, then Or.
abbrev pub held : BinOp → Value6 → Value6 → Answer Value6
held b.Pow w x = outside
held b.Mul w x = on_numbers (product promoted) (held_number w) (held_number x)
held b.Div w x = outside
held b.IntDiv w x = on_numbers quotient (held_number w) (held_number x)
held b.Mod w x = on_numbers remainder (held_number w) (held_number x)
held b.Add w x = held_sum w x
held b.Sub w x = on_numbers (difference promoted) (held_number w) (held_number x)
held b.Concat w x = joined w x
held b.Equal w x = compared is_eq (held_order w x)
held b.NotEqual w x = compared is_ne (held_order w x)
held b.Less w x = compared is_lt (held_order w x)
held b.Greater w x = compared is_gt (held_order w x)
held b.LessEqual w x = compared is_le (held_order w x)
held b.GreaterEqual w x = compared is_ge (held_order w x)
held b.Is w x = outside
held b.Like w x = outside
held b.And w x = logical both (bits both) w x
held b.Or w x = logical either (bits either) w x
held b.Xor w x = logical one_alone (bits one_alone) w x
held b.Eqv w x = then_answer (logical one_alone (bits one_alone) w x) negation
held b.Imp w x = then_answer (negation w) (λ n. logical either (bits either) n x)

abbrev pub held_unary : UnOp → Value6 → Answer Value6
held_unary u.Neg w = negative promoted (held_number w)
held_unary u.Not w = negation w

-- ---- all rows

-- the answer of an operator; a unary one passes over its second operand
abbrev pub operate : Op6 → Value6 → Value6 → Answer Value6
operate (Typed op) w x = typed op w x
operate (Variant op) w x = held op w x
operate (TypedUn op) w x = typed_unary op w
operate (VariantUn op) w x = held_unary op w
