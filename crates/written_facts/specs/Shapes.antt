-- The lower bounds and the rank of each variable, from lists of those of arrays.
use Rattle.std.specs.Prelude.{ℕ, ℤ, pos, Bool, cond, nat_eq, nat_lt, List, [], ◌∷◌, slice_index_or}
use Rattle.std.specs.List.{list_all}
use Rattle.vb_tree.specs.declared.declared.VarId.{VarId}
use Rattle.written_rows.specs.declared.facts.ArrayShape.{ArrayShape}

abbrev pub no_shape : ArrayShape
no_shape = record { low = pos 0; second = pos 0; rank = 0 }

abbrev pub shape_at : List ArrayShape → ℕ → ArrayShape
shape_at shapes v = slice_index_or shapes v no_shape

-- what an entry makes of the shape of a variable, if it is an entry of the variable
abbrev pub by_entry : {X : Type 0} → (X → ℕ) → (X → ArrayShape → ArrayShape) → (variable : ℕ) → X → ArrayShape → ArrayShape
by_entry of change v x s = cond (nat_eq (of x) v) (change x s) s

-- what entries make of it, one after the other
abbrev pub by_entries : {X : Type 0} → (X → ℕ) → (X → ArrayShape → ArrayShape) → (variable : ℕ) → List X → ArrayShape → ArrayShape
by_entries of change v [] s = s
by_entries of change v (x ∷ xs) s = by_entries of change v xs (by_entry of change v x s)

abbrev pub low_variable : VarId × ℤ × ℤ → ℕ
low_variable x = x.0.0

abbrev pub with_low : VarId × ℤ × ℤ → ArrayShape → ArrayShape
with_low x s = record { low = x.1; second = x.2; rank = s.rank }

abbrev pub rank_variable : VarId × ℕ → ℕ
rank_variable x = x.0.0

abbrev pub with_rank : VarId × ℕ → ArrayShape → ArrayShape
with_rank x s = record { low = s.low; second = s.second; rank = x.1 }

-- the shape of a variable by the lower bounds and the ranks of arrays
abbrev pub shape_of : List (VarId × ℤ × ℤ) → List (VarId × ℕ) → (variable : ℕ) → ArrayShape
shape_of lows ranks v = by_entries rank_variable with_rank v ranks (by_entries low_variable with_low v lows no_shape)

-- a rank that is kept as it is: 255 stands for all from there on
abbrev pub is_exact : VarId × ℕ → Bool
is_exact x = nat_lt x.1 255

abbrev pub are_exact : List (VarId × ℕ) → Bool
are_exact ranks = list_all is_exact ranks
