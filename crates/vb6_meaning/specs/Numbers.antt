-- The numbers that values are.
use Rattle.std.specs.Prelude.{true, false, ℤ, pos, negsuc, Option, Some, None}
use Rattle.vb_tree.specs.declared.value.Value6.{Value6}
use Rattle.vb_tree.specs.declared.value.Value6.TheVariants as v
use Rattle.vb6_meaning.specs.declared.number.Number.{Number}
use Rattle.vb6_meaning.specs.declared.number.NumberKind.{NumberKind}
use Rattle.vb6_meaning.specs.declared.number.NumberKind.TheVariants as kinds
use Rattle.vb6_meaning.specs.Kinds.{ones, ten_thousandths}

-- a number of a kind, in ones, or in ten-thousandths where it is a Currency
abbrev pub of_kind : NumberKind → ℤ → Number
of_kind k z = record { kind = k; amount = z }

-- the number that a value is in arithmetic: a Boolean counts as an Integer, which is -1 for True
abbrev pub number_of : Value6 → Option Number
number_of (v.Boolean false) = Some (of_kind kinds.Integer (pos 0))
number_of (v.Boolean true) = Some (of_kind kinds.Integer (negsuc 0))
number_of (v.Byte n) = Some (of_kind kinds.Byte (pos n))
number_of (v.Int z) = Some (of_kind kinds.Integer z)
number_of (v.Long z) = Some (of_kind kinds.Long z)
number_of (v.Cur z) = Some (of_kind kinds.Currency z)
number_of (v.Str units) = None
number_of v.Nothing = None
number_of (v.Object number) = None
number_of v.Empty = None

-- the amount of a number that goes to the kind k
abbrev pub amount_in : NumberKind → Number → ℤ
amount_in kinds.Byte n = ones n.kind n.amount
amount_in kinds.Integer n = ones n.kind n.amount
amount_in kinds.Long n = ones n.kind n.amount
amount_in kinds.Currency n = ten_thousandths n.kind n.amount
