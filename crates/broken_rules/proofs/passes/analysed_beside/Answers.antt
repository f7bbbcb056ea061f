use Rattle.broken_rules.proofs.passes.analysed_beside.Goals as goal

pub returns : goal.returns
returns c = record { bound = c.in_ok-bound.bound; is_bound = c.in_ok-bound.ensures; project = c.in_ok-analysed_bound.ensures.project; found = c.in_ok-analysed_bound.ensures.issues }
