use Rattle.broken_rules.proofs.passes.findings.Goals as goal

pub behind_refs-requires-clause-objects : goal.behind_refs-requires-clause-objects
behind_refs-requires-clause-objects c = record { lines = c.in_ok-objects.ensures.lines; heads = c.in_ok-objects.ensures.heads; vars = c.in_ok-objects.ensures.vars; others = c.in_ok-objects.ensures.others }

pub behind_refs-requires-clause-refs : goal.behind_refs-requires-clause-refs
behind_refs-requires-clause-refs c =
    let facts = c.in-Ok.ensures.facts in
    record {
      facts = facts.0;
      facts_are = facts.1;
      references = record { lines = facts.2.lines; heads = facts.2.heads; others = c.in-Ok.ensures.others };
      quiet = facts.2.quiet;
      calls = c.in-Ok.ensures.calls.exact;
    }
