use Rattle.std.proofs.Common.{List, cond, map, drop, ap, ◌∙◌}
use Rattle.bound_tree.specs.Tree.{Expr}
use Rattle.bound_tree.specs.View.{expr_of}
use Rattle.bound_facts.specs.Parts.{total}
use Rattle.array_bounds.proofs.Bounded.{total_behind}
use Rattle.array_bounds.proofs.resizes.behind_one.Goals as goal

pub returns : goal.returns
returns c more =
    ap (λ (es : List Expr). drop (total more) es) c.behind_by.ensures
    ∙ ap (λ h. drop (total more) (drop (cond h 2 1) (map expr_of c.args.exprs.now))) c.is_some.ensures
    ∙ total_behind c.args.bounds.now more (map expr_of c.args.exprs.now)
