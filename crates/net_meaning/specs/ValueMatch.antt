-- When a value of Visual Basic 6, held at a type, and a value of Visual Basic .NET are the same one. Numbers are within the limits
-- of their types. Objects are the same by a test of their numbers.
use Rattle.std.specs.Prelude.{◌≡◌, ℕ, ◌-◌, ◌^◌, ◌≤◌, Bool, true, ℤ, pos, ◌*ℤ◌, List, [], length}
use Rattle.vb_tree.specs.BoundTree as types
use Rattle.vb_tree.specs.BoundTree.{Ty}
use Rattle.vb_tree.specs.declared.value.Value6.{Value6}
use Rattle.vb_tree.specs.declared.value.Value6.TheVariants as v
use Rattle.vb6_meaning.specs.declared.number.NumberKind.TheVariants as kinds
use Rattle.vb6_meaning.specs.Kinds.{fits}
use Rattle.net_meaning.specs.declared.value.ValueN.{ValueN}
use Rattle.net_meaning.specs.declared.value.ValueN.TheVariants as n

-- a Decimal of at most four digits behind the point is so many ten-thousandths
abbrev pub IsTenThousandths : ℤ → (mantissa : ℤ) (scale : ℕ) → Type 0
IsTenThousandths z mantissa scale = (scale ≤ 4) × (mantissa *ℤ pos (10 ^ (4 - scale)) ≡ z)

-- The empty text of type String matches Nothing too, and in a Variant it doesn't. No Variant holds an object.
pub data Matches (are_same : ℕ → ℕ → Bool) : Ty → Value6 → ValueN → Type 0 where
  booleans : (b : Bool) → Matches are_same types.boolean (v.Boolean b) (n.Boolean b)
  bytes : (m : ℕ) → fits kinds.Byte (pos m) ≡ true → Matches are_same types.byte (v.Byte m) (n.Byte m)
  integers : (z : ℤ) → fits kinds.Integer z ≡ true → Matches are_same types.integer (v.Int z) (n.Short z)
  longs : (z : ℤ) → fits kinds.Long z ≡ true → Matches are_same types.long (v.Long z) (n.Integer z)
  currencies : (z m : ℤ) (s : ℕ) → fits kinds.Currency z ≡ true → IsTenThousandths z m s → Matches are_same types.currency (v.Cur z) (n.Decimal m s)
  texts : (units : List ℕ) → Matches are_same types.str (v.Str units) (n.Str units)
  empty_text : Matches are_same types.str (v.Str []) n.Nothing
  fixed_texts : (units : List ℕ) → Matches are_same (types.fixed (length units)) (v.Str units) (n.Str units)
  no_object : Matches are_same types.object v.Nothing n.Nothing
  no_object_of : (k : ℕ) → Matches are_same (types.class k) v.Nothing n.Nothing
  nothing : Matches are_same types.nothing v.Nothing n.Nothing
  objects : (i j : ℕ) → are_same i j ≡ true → Matches are_same types.object (v.Object i) (n.Object j)
  objects_of : (k i j : ℕ) → are_same i j ≡ true → Matches are_same (types.class k) (v.Object i) (n.Object j)
  in_variant_empty : Matches are_same types.variant v.Empty n.Nothing
  in_variant_boolean : (b : Bool) → Matches are_same types.variant (v.Boolean b) (n.Boolean b)
  in_variant_byte : (m : ℕ) → fits kinds.Byte (pos m) ≡ true → Matches are_same types.variant (v.Byte m) (n.Byte m)
  in_variant_integer : (z : ℤ) → fits kinds.Integer z ≡ true → Matches are_same types.variant (v.Int z) (n.Short z)
  in_variant_long : (z : ℤ) → fits kinds.Long z ≡ true → Matches are_same types.variant (v.Long z) (n.Integer z)
  in_variant_currency : (z m : ℤ) (s : ℕ) → fits kinds.Currency z ≡ true → IsTenThousandths z m s → Matches are_same types.variant (v.Cur z) (n.Decimal m s)
  in_variant_text : (units : List ℕ) → Matches are_same types.variant (v.Str units) (n.Str units)
