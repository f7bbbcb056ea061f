-- What is written for a constant, and what that gives.
use Rattle.std.specs.Prelude.{◌≡◌, ℕ, zero, suc, ◌/◌, ◌%◌, ◌==◌, nat_le, Bool, true, false, ◌&&◌, ◌||◌, if◌then◌else◌, ℤ, pos, negsuc, List, [], ◌∷◌, Option, Some, None}
use Rattle.std.specs.Int.{w16, w32, cast_signed, cast_unsigned}
use Rattle.vb_tree.specs.BoundTree as types
use Rattle.vb_tree.specs.BoundTree.{Ty}
use Rattle.vb_tree.specs.declared.value.Value6.{Value6}
use Rattle.vb_tree.specs.declared.value.Value6.TheVariants as v
use Rattle.vb6_meaning.specs.Answers.{Answer, gives, then_answer}
use Rattle.vb6_meaning.specs.Kinds.{fits}
use Rattle.vb6_meaning.specs.declared.number.NumberKind.TheVariants as kinds
use Rattle.net_tree.specs.declared.expression.NetBin.TheVariants as op
use Rattle.net_tree.specs.declared.expression.NetUn.TheVariants as un
use Rattle.net_tree.specs.declared.expression.OpN.TheVariants.{Bin, Un}
use Rattle.net_tree.specs.Tree.{Literal}
use Rattle.net_tree.specs.Tree as tree
use Rattle.net_tree.specs.Types as net
use Rattle.net_meaning.specs.declared.value.ValueN.{ValueN}
use Rattle.net_meaning.specs.declared.value.ValueN.TheVariants as n
use Rattle.net_meaning.specs.Conversions.{coerce_net}
use Rattle.net_meaning.specs.Operators.{operate_net}
use Rattle.net_meaning.specs.ValueMatch.{Matches}

-- ---- what a literal gives

-- a Decimal's digits behind the point are those that are written, and no zero stands last
abbrev pub without_zeros : (scale digits : ℕ) → ValueN
without_zeros zero digits = n.Decimal (pos digits) 0
without_zeros (suc scale) digits =
    if digits % 10 == 0 then without_zeros scale (digits / 10) else n.Decimal (pos digits) (suc scale)

-- in hexadecimal the digits are a bit pattern of the literal's own width, which its suffix tells
abbrev pub literal_value : Literal → ValueN
literal_value (tree.boolean b) = n.Boolean b
literal_value (tree.short z false) = n.Short z
literal_value (tree.short z true) = n.Short (cast_signed w16 (cast_unsigned w16 z))
literal_value (tree.integer z false) = n.Integer z
literal_value (tree.integer z true) = n.Integer (cast_signed w32 (cast_unsigned w32 z))
literal_value (tree.long z) = n.Long z
literal_value (tree.decimal (pos m)) = without_zeros 4 m
literal_value (tree.decimal (negsuc m)) = n.Decimal (negsuc m) 4
literal_value (tree.str units) = n.Str units

-- ---- texts: a quoted run, then single units by `ChrW` and further runs

pub data Piece : Type 0 where
  quoted : List ℕ → Piece
  unit : ℕ → Piece

pub record Pieces : Type 0 where
  pub first : List ℕ
  pub more : List Piece

-- units that stand in quotes
abbrev pub is_plain : ℕ → Bool
is_plain c = nat_le 32 c && nat_le c 126

-- the pieces behind a single unit; an empty run isn't written there
abbrev pub behind : List ℕ → List Piece → List Piece
behind [] more = more
behind (c ∷ run) more = quoted (c ∷ run) ∷ more

abbrev pub in_front : ℕ → Pieces → Pieces
in_front c p = if is_plain c then record { first = c ∷ p.first; more = p.more } else record { first = []; more = unit c ∷ behind p.first p.more }

abbrev pub pieces_of : List ℕ → Pieces
pieces_of [] = record { first = []; more = [] }
pieces_of (c ∷ units) = in_front c (pieces_of units)

abbrev pub piece_value : Piece → ValueN
piece_value (quoted run) = n.Str run
piece_value (unit c) = n.Str (c ∷ [])

-- joined from the left
abbrev pub joined : ValueN → List Piece → Answer ValueN
joined x [] = gives x
joined x (p ∷ more) = then_answer (operate_net (Bin op.Concat) x (piece_value p)) (λ w. joined w more)

-- ---- constants

pub data Constant : Type 0 where
  literal : Literal → Constant
  -- `(-L)`
  negative : Literal → Constant
  -- `CByte(L)`
  as_byte : Literal → Constant
  text : Pieces → Constant

abbrev pub constant_value : Constant → Answer ValueN
constant_value (literal l) = gives (literal_value l)
constant_value (negative l) = operate_net (Un un.Neg) (literal_value l) (literal_value l)
constant_value (as_byte l) = coerce_net (literal_value l) net.byte
constant_value (text p) = joined (n.Str p.first) p.more

abbrev pub is_negative : ℤ → Bool
is_negative (pos m) = false
is_negative (negsuc m) = true

-- Negative whole numbers are written in hexadecimal, a negative Currency with a minus, and a Byte is converted. The flag tells
-- whether the source has a number in hexadecimal or octal.
abbrev pub write_constant : (hexadecimal : Bool) → Value6 → Option Constant
write_constant h (v.Boolean b) = Some (literal (tree.boolean b))
write_constant h (v.Byte m) = Some (as_byte (tree.short (pos m) false))
write_constant h (v.Int z) = Some (literal (tree.short z (h || is_negative z)))
write_constant h (v.Long z) = Some (literal (tree.integer z (h || is_negative z)))
write_constant h (v.Cur (pos m)) = Some (literal (tree.decimal (pos m)))
write_constant h (v.Cur (negsuc m)) = Some (negative (tree.decimal (pos (suc m))))
write_constant h (v.Str units) = Some (text (pieces_of units))
write_constant h v.Nothing = None
write_constant h (v.Object number) = None
write_constant h v.Empty = None

-- the type of a constant
abbrev pub type_of_constant : Value6 → Ty
type_of_constant (v.Boolean b) = types.boolean
type_of_constant (v.Byte m) = types.byte
type_of_constant (v.Int z) = types.integer
type_of_constant (v.Long z) = types.long
type_of_constant (v.Cur z) = types.currency
type_of_constant (v.Str units) = types.str
type_of_constant v.Nothing = types.nothing
type_of_constant (v.Object number) = types.object
type_of_constant v.Empty = types.variant

-- whether a value is within the limits of its type
abbrev pub is_within : Value6 → Bool
is_within (v.Byte m) = fits kinds.Byte (pos m)
is_within (v.Int z) = fits kinds.Integer z
is_within (v.Long z) = fits kinds.Long z
is_within (v.Cur z) = fits kinds.Currency z
is_within _ = true

-- what is written gives a value that matches the constant
abbrev pub IsWrittenConstant : (ℕ → ℕ → Bool) → Value6 → Option Constant → Type 0
IsWrittenConstant are_same a None = Unit {0}
IsWrittenConstant are_same a (Some c) = (x : ValueN) × (constant_value c ≡ gives x) × Matches are_same (type_of_constant a) a x
