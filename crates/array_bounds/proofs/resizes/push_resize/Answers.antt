use Rattle.std.proofs.Common.{List, ◌∷◌, ◌++◌, map, ap, sym, ◌∙◌, arith}
use Rattle.vb_tree.specs.View.{redim_item_of}
use Rattle.bound_tree.specs.View.{expr_of}
use Rattle.bound_facts.specs.Parts.{Resize}
use Rattle.array_bounds.specs.Views.{resize_of}
use Rattle.array_bounds.proofs.Bounded.{resizes_none, resizes_of_few}
use Rattle.array_bounds.proofs.resizes.push_resize.Goals as goal

pub returns-in-empty : goal.returns-in-empty
returns-in-empty c more =
    ap (λ (xs : List Resize). map resize_of c.args.to.now.items ++ xs)
    (resizes_none more ∙ sym (resizes_of_few expr_of (redim_item_of c.args.item.now ∷ more) c.args.exprs.now (omega (arith, c.in-empty.len_below))))
