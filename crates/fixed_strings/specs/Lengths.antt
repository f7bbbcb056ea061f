-- Fixed strings and their lengths.
use Rattle.std.specs.Prelude.{ℕ, suc, Bool, true, false, Option, Some, None, is_some, List, [], ◌∷◌, ◌++◌}
use Rattle.vb_tree.specs.BoundTree.{Ty, fixed, array}
use Rattle.vb_tree.specs.declared.declared.VarId.{VarId}
use Rattle.bound_tree.specs.Tree.{Variable, Program}

-- the number of units of a fixed string
abbrev pub units_of : Ty → Option ℕ
units_of (fixed n) = Some n
units_of _ = None

abbrev pub is_fixed_string : Ty → Bool
is_fixed_string t = is_some (units_of t)

-- a fixed string or an array of them
abbrev pub is_made_of_fixed : Ty → Bool
is_made_of_fixed (array t rank) = is_fixed_string t
is_made_of_fixed t = is_fixed_string t

abbrev pub length_entry : ℕ → Option ℕ → List (VarId × ℕ)
length_entry k None = []
length_entry k (Some n) = (record { 0 = k }, n) ∷ []

-- the lengths of variables that are numbered from k
abbrev pub lengths_from : ℕ → List Variable → List (VarId × ℕ)
lengths_from k [] = []
lengths_from k (v ∷ vars) = length_entry k (units_of v.ty) ++ lengths_from (suc k) vars

abbrev pub lengths : Program → List (VarId × ℕ)
lengths P = lengths_from 0 P.declarations.vars
