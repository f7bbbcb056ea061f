use Rattle.array_bounds.specs.Facts.{LocksBy}
use Rattle.array_bounds.specs.FactsOf.{known_of}
use Rattle.array_bounds.specs.Programs.{shown_program}
use Rattle.array_bounds.proofs.Listed.{lows_are, ranks_are}
use Rattle.array_bounds.proofs.analysis.found.Goals as goal

pub returns-clause-lows : goal.returns-clause-lows
returns-clause-lows c =
    lows_are (shown_program c.args.declared.now c.args.lines.now) (LocksBy (shown_program c.args.declared.now c.args.lines.now) c.args.pairs.now) (known_of c.in_ok-facts.facts) c.in_ok-found_by.field-0.lows c.in_ok-facts.ensures.facts c.in_ok-found_by.ensures.lows

pub returns-clause-ranks : goal.returns-clause-ranks
returns-clause-ranks c =
    ranks_are (shown_program c.args.declared.now c.args.lines.now) (LocksBy (shown_program c.args.declared.now c.args.lines.now) c.args.pairs.now) (known_of c.in_ok-facts.facts) c.in_ok-found_by.field-0.ranks c.in_ok-facts.ensures.facts c.in_ok-found_by.ensures.ranks
