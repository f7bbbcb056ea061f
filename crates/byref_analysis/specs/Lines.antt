-- Which expressions of a line are written to alone, and which are arrays of a ReDim or their bounds.
use Rattle.std.specs.Prelude.{Bool, false, not, is_some, List, [], ◌∷◌, ◌++◌, take, drop}
use Rattle.vb_tree.specs.Tree.{Form, set, Bounds, ReDimItem}
use Rattle.bound_tree.specs.Tree.{Expr}
use Rattle.bound_facts.specs.Node.{called}
use Rattle.bound_facts.specs.Parts.{first_of, total}

abbrev pub is_no_call : List Expr → Bool
is_no_call [] = false
is_no_call (e ∷ es) = not (is_some (called e))

-- whether the first expression of a line is written to and not used: the target of a Set that is no part of a property
abbrev pub is_set_alone : Form → List Expr → Bool
is_set_alone (set target value) es = is_no_call es
is_set_alone _ es = false

abbrev pub behind_first : List Expr → List Expr
behind_first [] = []
behind_first (e ∷ es) = es

-- the bounds of an array that stands first among expressions, and what stands behind them: as many as its dimensions have bounds
abbrev pub own_bounds : List Bounds → List Expr → List Expr
own_bounds bounds es = take (total bounds) (behind_first es)

abbrev pub behind_bounds : List Bounds → List Expr → List Expr
behind_bounds bounds es = drop (total bounds) (behind_first es)

-- the arrays of a ReDim
abbrev pub arrays_in : List ReDimItem → List Expr → List Expr
arrays_in [] es = []
arrays_in (i ∷ items) es = first_of es ++ arrays_in items (behind_bounds i.bounds es)

-- their bounds
abbrev pub bounds_in : List ReDimItem → List Expr → List Expr
bounds_in [] es = []
bounds_in (i ∷ items) es = own_bounds i.bounds es ++ bounds_in items (behind_bounds i.bounds es)
