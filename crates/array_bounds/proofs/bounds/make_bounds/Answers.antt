use Rattle.std.proofs.Common.{ℕ, List, subst}
use Rattle.array_bounds.specs.Givens.{all_lows, all_ranks, at_dimension}
use Rattle.array_bounds.specs.Programs.{shown_program}
use Rattle.array_bounds.specs.Ranges.{ClassNumber, RangeIs, cell}
use Rattle.array_bounds.proofs.Bounding.{bounds_are}
use Rattle.array_bounds.proofs.bounds.make_bounds.Goals as goal

pub returns : goal.returns
returns c =
    let P = shown_program c.args.declared.now c.args.lines.now in
    bounds_are P _ c.in_ok-classes.ensures.len c.in_ok-classes.ensures.same
    (λ k d. subst (λ (cs : List ℕ). RangeIs (ClassNumber cs (at_dimension d (all_lows P)) k) (cell c.in_ok-lows.lows.items k d)) c.deref.ensures.value (c.in_ok-lows.ensures k d))
    (λ k d. subst (λ (cs : List ℕ). RangeIs (ClassNumber cs (at_dimension d (all_ranks P)) k) (cell c.in_ok-ranks.ranks.items k d)) c.deref-2.ensures.value (c.in_ok-ranks.ensures k d))
