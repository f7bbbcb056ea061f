use Rattle.std.proofs.Common.{List, subst}
use Rattle.std.proofs.lemmas.List.{take_all}
use Rattle.array_bounds.specs.declared.givens.Given.{Given}
use Rattle.array_bounds.specs.Givens.{at_dimension}
use Rattle.array_bounds.specs.Ranges.{ClassNumber, RangeIs, cell}
use Rattle.array_bounds.proofs.Widening.{ranges_next, ranges_none}
use Rattle.array_bounds.proofs.ranges.note_all.Goals as goal

pub loop-g-init : goal.loop-g-init
loop-g-init c k d = ranges_none c.args.classes.now k (cell c.args.table.now k d) (c.requires.empty k d)

pub loop-g-preserved : goal.loop-g-preserved
loop-g-preserved c k d =
    ranges_next c.args.classes.now c.args.givens.now c.loop-g.g-index _ k d (cell c.loop-g.table k d) (cell c.note.new.table k d) c.loop-g-test.true (c.loop-g.invariant k d) (c.in_ok-note.ensures k d)

pub returns : goal.returns
returns c k d =
    subst (λ (xs : List Given). RangeIs (ClassNumber c.args.classes.now (at_dimension d xs) k) (cell c.loop-g.table k d)) (take_all c.loop-g.g-index c.args.givens.now c.loop-g-test.false) (c.loop-g.invariant k d)
