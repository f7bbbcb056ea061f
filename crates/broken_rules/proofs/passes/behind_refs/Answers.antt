use Rattle.broken_rules.proofs.passes.behind_refs.Goals as goal

pub behind_fixed-requires-clause-fixed : goal.behind_fixed-requires-clause-fixed
behind_fixed-requires-clause-fixed c = record { lines = c.in-Ok.ensures.lines; vars = c.in-Ok.ensures.vars; others = c.in-Ok.ensures.others }
