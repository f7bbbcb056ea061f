use Rattle.std.proofs.Common.{List, ◌++◌, map, ap, sym, ◌∙◌, arith}
use Rattle.bound_tree.specs.View.{expr_of}
use Rattle.bound_facts.specs.Parts.{Extent}
use Rattle.array_bounds.specs.Views.{extent_of}
use Rattle.array_bounds.proofs.Bounded.{extents_none, upper_of_few}
use Rattle.array_bounds.proofs.resizes.push_upper.Goals as goal

pub returns-in-empty : goal.returns-in-empty
returns-in-empty c more =
    ap (λ (xs : List Extent). map extent_of c.args.to.now.items ++ xs) (extents_none more ∙ sym (upper_of_few expr_of more c.args.exprs.now (omega (arith, c.in-empty.len_below))))
