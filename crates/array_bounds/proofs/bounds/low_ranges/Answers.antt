use Rattle.std.proofs.Common.{List, subst, ◌∙◌}
use Rattle.array_bounds.specs.declared.givens.Given.{Given}
use Rattle.array_bounds.specs.Givens.{at_dimension}
use Rattle.array_bounds.specs.Ranges.{ClassNumber, RangeIs, cell}
use Rattle.array_bounds.proofs.bounds.low_ranges.Goals as goal

pub returns : goal.returns
returns c k d =
    subst (λ (givens : List Given). RangeIs (ClassNumber c.args.classes.now (at_dimension d givens) k) (cell c.in_ok-ranges_of.field-0.items k d)) (c.deref.ensures.value ∙ c.in_ok-lows.ensures) (c.in_ok-ranges_of.ensures k d)
