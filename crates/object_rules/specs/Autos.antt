-- Variables that are declared As New.
use Rattle.std.specs.Prelude.{ℕ, suc, Bool, true, false, cond, ◌&&◌, List, [], ◌∷◌, ◌++◌}
use Rattle.vb_tree.specs.BoundTree.{Ty, class}
use Rattle.vb_tree.specs.declared.declared.VarId.{VarId}
use Rattle.bound_tree.specs.Tree.{Variable, Program}
use Rattle.bound_facts.specs.Node.{is_array_type}

abbrev pub is_class : Ty → Bool
is_class (class c) = true
is_class _ = false

-- whether the use of a variable makes its object; an element of an array is read as it stands
abbrev pub is_auto : Variable → Bool
is_auto v = v.auto && is_class v.ty

abbrev pub number_if : Bool → ℕ → List VarId
number_if test k = cond test (record { 0 = k } ∷ []) []

-- the numbers of such variables, of variables that are numbered from k
abbrev pub autos_from : ℕ → List Variable → List VarId
autos_from k [] = []
autos_from k (v ∷ vars) = number_if (is_auto v) k ++ autos_from (suc k) vars

abbrev pub autos : Program → List VarId
autos P = autos_from 0 P.declarations.vars

-- whether a declaration is that of an array of As New variables, whatever class it names
abbrev pub is_auto_array : Variable → Bool
is_auto_array v = v.auto && is_array_type v.named
