-- Where the tables end for operands of types that they have a row for.
use Rattle.std.specs.Prelude.{◌≡◌, ℕ, ◌^◌, nat_le, nat_lt, Bool, true, false, pos, negsuc, List, [], ◌∷◌, ◌++◌, length, replicate, Some}
use Rattle.std.specs.List.{list_all}
use Rattle.std.specs.Ordering.{int_eq}
use Rattle.vb_tree.specs.declared.bound.LibCall.{LibCall}
use Rattle.vb_tree.specs.declared.bound.LibCall.TheVariants as lib
use Rattle.vb_tree.specs.declared.expression.BinOp.{BinOp}
use Rattle.vb_tree.specs.declared.expression.BinOp.TheVariants as b
use Rattle.vb_tree.specs.declared.value.Value6.{Value6}
use Rattle.vb_tree.specs.declared.value.Value6.TheVariants as v
use Rattle.vb6_meaning.specs.Answers.{gives}
use Rattle.vb6_meaning.specs.declared.number.Number.{Number}
use Rattle.vb6_meaning.specs.Kinds.{least}
use Rattle.vb6_meaning.specs.Numbers.{number_of, amount_in}
use Rattle.vb6_meaning.specs.NumberTexts.{text_of}
use Rattle.vb6_meaning.specs.Values.{common_whole}

-- `\` and Mod
abbrev pub divides : BinOp → Bool
divides b.IntDiv = true
divides b.Mod = true
divides _ = false

-- a text of more than 2,147,483,647 units
abbrev pub IsTooLong : List ℕ → Type 0
IsTooLong units = nat_lt (length units) (2 ^ 31) ≡ false

-- The least whole number of a kind is divided by -1, or the text that two values make is too long. On operands of types for which the
-- tables have a row, an operator has no value and raises nothing there alone.
pub data IsEdge (op : BinOp) (x y : Value6) : Type 0 where
  least_by_minus_one :
      (m n : Number) → divides op ≡ true → number_of x ≡ Some m → number_of y ≡ Some n
      → int_eq (amount_in (common_whole m n) m) (least (common_whole m n)) ≡ true → int_eq (amount_in (common_whole m n) n) (negsuc 0) ≡ true
      → IsEdge op x y
  joined_too_long : (s t : List ℕ) → op ≡ b.Concat → text_of x ≡ gives s → text_of y ≡ gives t → IsTooLong (s ++ t) → IsEdge op x y
  sum_too_long : (s t : List ℕ) → op ≡ b.Add → x ≡ v.Str s → y ≡ v.Str t → IsTooLong (s ++ t) → IsEdge op x y

-- a unit up to 127, which is the same in each code page
abbrev pub is_plain_unit : ℕ → Bool
is_plain_unit c = nat_le c 127

-- UCase or LCase of a text with a unit past 127, Space of too many blanks, Chr of 128 to 255, or Asc of a unit past 127. On arguments of the
-- types that they take, calls of the library that give a value have none and raise nothing there alone.
pub data IsLibraryEdge : LibCall → List Value6 → Type 0 where
  capital_past_127 : (s : List ℕ) → list_all is_plain_unit s ≡ false → IsLibraryEdge lib.UCase (v.Str s ∷ [])
  small_past_127 : (s : List ℕ) → list_all is_plain_unit s ≡ false → IsLibraryEdge lib.LCase (v.Str s ∷ [])
  blanks_too_long : (n : ℕ) → IsTooLong (replicate n 32) → IsLibraryEdge lib.Space (v.Long (pos n) ∷ [])
  character_past_127 : (n : ℕ) → nat_le n 127 ≡ false → nat_le n 255 ≡ true → IsLibraryEdge lib.Chr (v.Long (pos n) ∷ [])
  number_past_127 : (c : ℕ) (s : List ℕ) → nat_le c 127 ≡ false → IsLibraryEdge lib.Asc (v.Str (c ∷ s) ∷ [])
