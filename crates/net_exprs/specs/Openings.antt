-- What the code has read of an expression's beginning.
use Rattle.std.specs.Prelude.{Bool, true, []}
use Rattle.net_exprs.specs.declared.openings.Opening as code_opening
use Rattle.net_exprs.specs.declared.openings.Opening.TheVariants as o
use Rattle.net_tree.specs.View.{exp_of, type_name_of}
use Rattle.net_exprs.specs.Expressions.{Opening, leaf, nested, ranked, whole}
use Rattle.net_exprs.specs.Stages.{fits_stage}

abbrev pub opening_view : code_opening.Opening → Opening
opening_view (o.Leaf e) = leaf (whole (exp_of e))
opening_view (o.Made t) = leaf (ranked (type_name_of t) [])
opening_view (o.Nested n) = nested n

abbrev pub fits_opening : Opening → Bool
fits_opening (leaf stage) = fits_stage stage
fits_opening (nested n) = true
