use Rattle.std.proofs.Common.{◌≡◌}
use Rattle.wizard_cli.proofs.Listing.{rules_to}
use Rattle.wizard_cli.proofs.answer.push_rules.Given as goal

abbrev pub invariant-loop-k : goal.invariant-loop-k
invariant-loop-k l = l.message ≡ rules_to l.k
