-- What references to the arrays and bounds of a ReDim show, and the bounds of a dimension by whether a lower one is written.
use Rattle.std.specs.Prelude.{Bool, true, false, List, [], ◌∷◌, Some, None, map, option_map}
use Rattle.vb_tree.specs.Tree.{Bounds}
use Rattle.bound_tree.specs.Tree.{Expr}
use Rattle.bound_tree.specs.View.{shown}
use Rattle.bound_facts.specs.Parts.{Extent, Resize, extents}
use Rattle.array_bounds.specs.declared.resizes.ExtentRef.{ExtentRef}
use Rattle.array_bounds.specs.declared.resizes.ResizeRef.{ResizeRef}

abbrev pub extent_of : ExtentRef → Extent
extent_of x = (option_map shown x.lower, shown x.upper)

abbrev pub resize_of : ResizeRef → Resize
resize_of r = record { array = shown r.array; extents = map extent_of r.extents.items }

-- an extent of two expressions, or of one, and those behind it
abbrev pub extents_by : (has_lower : Bool) → List Bounds → List Expr → List Extent
extents_by true bs (e ∷ f ∷ es) = (Some e, f) ∷ extents bs es
extents_by true bs _ = []
extents_by false bs (e ∷ es) = (None, e) ∷ extents bs es
extents_by false bs [] = []
