-- The expressions of a code line by what they are in it.
use Rattle.std.specs.Prelude.{ℕ, ◌+◌, Bool, true, false, cond, Option, Some, None, is_some, List, [], ◌∷◌, ◌++◌, map, drop, slice_get, option_to_list}
use Rattle.std.specs.List.{flat_map}
use Rattle.vb_tree.specs.Tree.{Form, assign, set, for_head, for_each, redim, erase, Bounds, ReDimItem}
use Rattle.bound_tree.specs.Tree.{Expr, typed, Line}
use Rattle.bound_facts.specs.Node.{called_by}
use Rattle.bound_facts.specs.Nodes.{nodes, nodes_in}

-- the bounds of one dimension of a ReDim
abbrev pub Extent : Type 0
Extent = Option Expr × Expr

-- an array of a ReDim with its bounds
pub record Resize : Type 0 where
  pub array : Expr
  pub extents : List Extent

abbrev pub bound_count : Bounds → ℕ
bound_count b = cond (is_some b.lower) 2 1

abbrev pub total : List Bounds → ℕ
total [] = 0
total (b ∷ bs) = bound_count b + total bs

-- the extents that are bound for some dimensions, and what an expression list is short of is left out
abbrev pub extents : List Bounds → List Expr → List Extent
extents [] es = []
extents (b ∷ bs) [] = []
extents (b ∷ bs) (e ∷ []) = cond (is_some b.lower) [] ((None, e) ∷ [])
extents (b ∷ bs) (e ∷ f ∷ es) = cond (is_some b.lower) ((Some e, f) ∷ extents bs es) ((None, e) ∷ extents bs (f ∷ es))

abbrev pub resizes : List ReDimItem → List Expr → List Resize
resizes [] es = []
resizes (i ∷ items) [] = []
resizes (i ∷ items) (e ∷ es) = record { array = e; extents = extents i.bounds es } ∷ resizes items (drop (total i.bounds) es)

-- the arrays that a line makes anew
abbrev pub resized_by : Form → List Expr → List Resize
resized_by (redim preserve items) es = resizes items es
resized_by _ es = []

abbrev pub first_of : List Expr → List Expr
first_of [] = []
first_of (e ∷ es) = e ∷ []

-- what a line stores to: the target of an assignment or Set, a counter, arrays that are made anew or erased
abbrev pub stores : Form → List Expr → List Expr
stores (assign target value) es = first_of es
stores (set target value) es = first_of es
stores (for_head counter start limit step) es = first_of es
stores (for_each name suffix items) es = first_of es
stores (redim preserve items) es = map (λ (r : Resize). r.array) (resizes items es)
stores (erase array) es = first_of es
stores _ es = []

abbrev pub line_stores : Line → List Expr
line_stores l = stores l.source.form l.bindings.exprs

-- The nodes of the target of a Set that are used: a variable or a field is written to, while the part of a property is called.
abbrev pub target_nodes : Expr → List Expr
target_nodes (typed ty t) = cond (is_some (called_by t)) (nodes (typed ty t)) (nodes_in t)

-- the nodes of a line's expressions that are used
abbrev pub used_nodes : Form → List Expr → List Expr
used_nodes (set target value) [] = []
used_nodes (set target value) (e ∷ es) = target_nodes e ++ flat_map nodes es
used_nodes _ es = flat_map nodes es

abbrev pub line_uses : Line → List Expr
line_uses l = used_nodes l.source.form l.bindings.exprs
