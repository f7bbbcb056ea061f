use Rattle.std.proofs.Common.{◌∙◌}
use Rattle.byref_analysis.specs.FactsOf.{known_of, seen}
use Rattle.byref_analysis.proofs.Meaning.{are_inward}
use Rattle.byref_analysis.proofs.analysis.found.Goals as goal

pub returns-clause-calls : goal.returns-clause-calls
returns-clause-calls c =
    let are = c.deref-2.ensures.value ∙ c.in_ok-pairs.ensures in
    rw c.in_ok-found_by.ensures.calls (record { sorted = c.in_ok-calls.ensures.sorted; exact = λ p. rw are at (c.in_ok-calls.ensures.exact p) })

pub returns-clause-inward : goal.returns-clause-inward
returns-clause-inward c =
    rw c.in_ok-found_by.ensures.found.inward (are_inward (seen c.args.declared.now c.args.lines.now) (known_of c.in_ok-facts.facts) c.in_ok-facts.ensures)
