-- The definitions, computed.
use Rattle.std.proofs.Common.{◌≡◌, refl, ℕ, ℤ, pos, negsuc, Bool, true, false, [], ◌∷◌, Some, None}
use Rattle.vb_tree.specs.BoundTree as types
use Rattle.vb_tree.specs.declared.expression.BinOp.TheVariants as b
use Rattle.vb_tree.specs.declared.bound.Op6.TheVariants.{Typed}
use Rattle.vb_tree.specs.declared.value.Value6.{Value6}
use Rattle.vb_tree.specs.declared.value.Value6.TheVariants as v
use Rattle.std.specs.Fmt.{digits}
use Rattle.vb6_meaning.specs.Answers.{Answer, gives, raises, outside}
use Rattle.vb6_meaning.specs.Values.{operate}
use Rattle.vb6_meaning.specs.Bits.{from_bits}
use Rattle.net_tree.specs.Types as net
use Rattle.net_tree.specs.Tree as tree
use Rattle.net_tree.specs.declared.expression.NetBin.TheVariants as op
use Rattle.net_tree.specs.declared.expression.NetUn.TheVariants as un
use Rattle.net_tree.specs.declared.expression.CastWord.TheVariants as word
use Rattle.net_tree.specs.declared.expression.OpN.TheVariants.{Bin}
use Rattle.net_meaning.specs.declared.value.ValueN.{ValueN}
use Rattle.net_meaning.specs.declared.value.ValueN.TheVariants as n
use Rattle.net_meaning.specs.SameValues.{IsSame}
use Rattle.net_meaning.specs.ValueMatch.{Matches, integers}
use Rattle.net_meaning.specs.Conversions.{coerce_net}
use Rattle.net_meaning.specs.Operators.{operate_net}
use Rattle.net_meaning.specs.Support as support
use Rattle.net_meaning.specs.Library as library
use Rattle.net_meaning.specs.WrittenRows.{write_operator, write_conversion, written, operand_a, operand_b, no_text, cast, unary, binary, call, cur, cur_text}
use Rattle.net_meaning.specs.WrittenLiterals.{IsWrittenConstant, literal_value, write_constant, constant_value, literal, negative, as_byte, pieces_of, quoted, unit}

-- a half goes to the even number
half_to_short : coerce_net (n.Decimal (pos 25) 1) net.short ≡ gives (n.Short (pos 2))
half_to_short = refl

true_to_byte : coerce_net (n.Boolean true) net.byte ≡ gives (n.Byte 255)
true_to_byte = refl

overflow : operate_net (Bin op.Add) (n.Short (pos 32767)) (n.Short (pos 1)) ≡ raises 6
overflow = refl

larger_scale : operate_net (Bin op.Add) (n.Decimal (pos 15) 1) (n.Decimal (pos 225) 2) ≡ gives (n.Decimal (pos 375) 2)
larger_scale = refl

least_by_minus_one : operate_net (Bin op.Mod) (n.Integer (negsuc 2147483647)) (n.Integer (negsuc 0)) ≡ outside
least_by_minus_one = refl

bits : operate_net (Bin op.Xor) (n.Short (negsuc 0)) (n.Short (pos 255)) ≡ gives (n.Short (negsuc 255))
unfolding from_bits
bits = refl

-- what is written

currency_sum : write_operator b.Add types.currency types.integer
    ≡ written types.currency (call cur (binary op.Add operand_a (cast word.CDec operand_b)))
currency_sum = refl

division : write_operator b.IntDiv types.byte types.currency
    ≡ written types.long (binary op.IntDiv (cast word.CInt operand_a) (cast word.CInt operand_b))
division = refl

implication : write_operator b.Imp types.boolean types.integer
    ≡ written types.integer (binary op.Or (unary un.Not (cast word.CShort operand_a)) operand_b)
implication = refl

join : write_operator b.Concat types.currency types.str
    ≡ written types.str (binary op.Concat (call cur_text operand_a) operand_b)
join = refl

two_currencies : write_operator b.Mul types.currency types.currency ≡ None
two_currencies = refl

text_to_variant : write_conversion types.str types.variant ≡ Some (cast word.CObj (binary op.Concat no_text operand_a))
text_to_variant = refl

-- constants: the bit pattern of -1 is FFFF, which only the suffix of a Short makes -1 again

minus_one : write_constant false (v.Int (negsuc 0)) ≡ Some (literal (tree.short (negsuc 0) true))
minus_one = refl

pattern : literal_value (tree.short (negsuc 0) true) ≡ n.Short (negsuc 0)
pattern = refl

without_suffix : literal_value (tree.integer (pos 65535) true) ≡ n.Integer (pos 65535)
without_suffix = refl

is_short : (are_same : ℕ → ℕ → Bool) (a : Value6) (x : ValueN) → Matches are_same types.integer a x → (z : ℤ) × (x ≡ n.Short z)
is_short are_same _ _ (integers z fits) = (z, refl)

-- -1 written in hexadecimal without its suffix is no -1
refuses_without_suffix : (are_same : ℕ → ℕ → Bool) → IsWrittenConstant are_same (v.Int (negsuc 0)) (Some (literal (tree.integer (pos 65535) true))) → ⊥
refuses_without_suffix are_same h =
    let short = is_short are_same (v.Int (negsuc 0)) h.0 h.2 in
    let integer : n.Integer (pos 65535) ≡ h.0 = cc (h.1) in
    cc (integer, short.1)

no_error : (x : ValueN) → ◌≡◌ {A = Answer ValueN} (gives x) (raises 6) → ⊥
no_error x e = cc

-- a sum of Currencies written without its check does not overflow
refuses_unchecked : (are_same : ℕ → ℕ → Bool) → IsSame are_same (operate (Typed b.Add) (v.Cur (pos 9223372036854775807)) (v.Cur (pos 1))) (written types.currency (binary op.Add operand_a operand_b)) (n.Decimal (pos 9223372036854775807) 4) (n.Decimal (pos 1) 4) → ⊥
refuses_unchecked are_same h = no_error (n.Decimal (pos 9223372036854775808) 4) h

minus_one_and_a_half : constant_value (negative (tree.decimal (pos 15000))) ≡ gives (n.Decimal (negsuc 14) 1)
minus_one_and_a_half = refl

byte_constant : write_constant false (v.Byte 5) ≡ Some (as_byte (tree.short (pos 5) false))
byte_constant = refl

-- a carriage return and a line feed behind the letter A
pieces : pieces_of (65 ∷ 13 ∷ 10 ∷ 66 ∷ []) ≡ record { first = 65 ∷ []; more = unit 13 ∷ unit 10 ∷ quoted (66 ∷ []) ∷ [] }
pieces = refl

-- support functions

past_the_range : support.cur (n.Decimal (pos 9223372036854775808) 4) ≡ raises 6
past_the_range = refl

end_of_the_range : support.cur (n.Decimal (negsuc 9223372036854775807) 4) ≡ gives (n.Decimal (negsuc 9223372036854775807) 4)
end_of_the_range = refl

text_of_currency : support.cur_text (n.Decimal (negsuc 1499) 3) ≡ gives (n.Str (45 ∷ 49 ∷ 46 ∷ 53 ∷ []))
unfolding digits
text_of_currency = refl

no_index : support.at (pos 1) (pos 5) ≡ negsuc 0
no_index = refl

past_the_bound : support.top (pos 0) (pos 1) ≡ raises 9
past_the_bound = refl

past_integer : support.top (pos 2147483647) (negsuc 0) ≡ raises 6
past_integer = refl

variant_sum : support.var_add (n.Short (pos 32767)) (n.Short (pos 1)) ≡ gives (n.Integer (pos 32768))
variant_sum = refl

variant_scale : support.var_add (n.Decimal (pos 15) 1) (n.Byte 1) ≡ gives (n.Decimal (pos 25) 1)
variant_scale = refl

variant_order : support.var_comp n.Nothing (n.Str (65 ∷ [])) ≡ gives (n.Integer (negsuc 0))
variant_order = refl

-- library calls

left_of_nothing : library.left n.Nothing (n.Integer (pos 2)) ≡ gives (n.Str [])
left_of_nothing = refl

first_place : library.place (n.Str (65 ∷ 66 ∷ [])) (n.Str (66 ∷ [])) ≡ gives (n.Integer (pos 2))
first_place = refl

invalid_place : library.mid_on (n.Str (65 ∷ [])) (n.Integer (pos 0)) ≡ raises 5
invalid_place = refl
