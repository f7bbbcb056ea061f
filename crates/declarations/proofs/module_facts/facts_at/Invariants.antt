use Rattle.std.proofs.Common.{◌≡◌, drop, map}
use Rattle.declarations.specs.ModuleFacts.{facts_at}
use Rattle.declarations.specs.View.{facts_of}
use Rattle.declarations.proofs.module_facts.facts_at.Given as goal

abbrev pub invariant-loop-facts : goal.invariant-loop-facts
invariant-loop-facts l = facts_at l.file (map facts_of (drop l.facts-index l.all)) ≡ facts_at l.file (map facts_of l.all)
