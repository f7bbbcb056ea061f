-- The least and the greatest of the numbers that are given to the arrays of a class, dimension by dimension.
use Rattle.std.specs.Prelude.{◌≡◌, ℕ, ℤ, pos, negsuc, ◌<◌, ◌≤ℤ◌, Bool, false, not, ◌||◌, nat_eq, nat_lt, Option, Some, None, List, [], slice_get, slice_index, length, Vec}
use Rattle.std.specs.List.{Contains, list_any}
use Rattle.std.specs.Int.{int_min, int_max}
use Rattle.std.specs.Ordering.{int_eq}
use Rattle.std.proofs.Common.{Global}
use Rattle.array_bounds.specs.declared.ranges.Range.{Range}

-- the range with one more number
abbrev pub wider : Option Range → ℤ → Range
wider None z = record { low = z; high = z }
wider (Some r) z = record { low = int_min r.low z; high = int_max r.high z }

-- no number has the property, or the least and the greatest that have it
abbrev pub RangeIs : (ℤ → Type 0) → Option Range → Type 0
RangeIs P None = (z : ℤ) → P z → ⊥
RangeIs P (Some r) = P r.low × P r.high × ((z : ℤ) → P z → (r.low ≤ℤ z) × (z ≤ℤ r.high))

abbrev pub is_wide : Option Range → Bool
is_wide None = false
is_wide (Some r) = not (int_eq r.low r.high)

-- ---- a row has the range of each dimension, a table the row of each class

abbrev pub flat : {X : Type 0} → Option (Option X) → Option X
flat None = None
flat (Some o) = o

abbrev pub range_at : List (Option Range) → ℕ → Option Range
range_at row d = flat (slice_get row d)

abbrev pub Table : Type 0
Table = List (Vec (Option Range) Global)

abbrev pub row_of : Option (Vec (Option Range) Global) → List (Option Range)
row_of None = []
row_of (Some v) = v.items

abbrev pub row_at : Table → ℕ → List (Option Range)
row_at table c = row_of (slice_get table c)

abbrev pub cell : Table → (class dimension : ℕ) → Option Range
cell table c d = range_at (row_at table c) d

-- a number that is given to an array of a class
abbrev pub ClassNumber : (classes : List ℕ) → List (ℕ × ℤ) → ℕ → ℤ → Type 0
ClassNumber classes numbers c z = (b : ℕ) × Contains numbers (b, z) × (b < length classes) × (slice_index classes b ≡ c)

-- ---- the arrays of classes

abbrev pub row_by : Table → Option ℕ → List (Option Range)
row_by table None = []
row_by table (Some c) = row_at table c

-- the ranges of an array, by dimension: those of its class
abbrev pub array_row : Table → (classes : List ℕ) → ℕ → List (Option Range)
array_row table classes a = row_by table (slice_get classes a)

abbrev pub low_or : ℤ → Option Range → ℤ
low_or base None = base
low_or base (Some r) = r.low

abbrev pub count_of : ℤ → ℕ
count_of (pos n) = n
count_of (negsuc n) = 0

-- the least rank, and 1 where there is none
abbrev pub rank_or_one : Option Range → ℕ
rank_or_one None = 1
rank_or_one (Some r) = count_of r.low

-- a rank over 2 or two ranks
abbrev pub is_torn : Option Range → Bool
is_torn None = false
is_torn (Some r) = not (nat_eq (count_of r.low) (count_of r.high)) || nat_lt 2 (count_of r.high)

-- two numbers in some dimension
abbrev pub is_split : List (Option Range) → Bool
is_split row = list_any is_wide row
