use Rattle.std.proofs.Common.{◌≡◌, ◌≤◌, take}
use Rattle.form_parts.specs.Chains.{last_link}
use Rattle.form_parts.specs.Opened.{opened}
use Rattle.form_parts.proofs.chains.last_link.Given as goal

abbrev pub invariant-loop-token : goal.invariant-loop-token
invariant-loop-token l = record {
  so_far : l.link ≡ last_link (take l.token-index l.tokens);
  few : opened l.link ≤ l.token-index;
}
