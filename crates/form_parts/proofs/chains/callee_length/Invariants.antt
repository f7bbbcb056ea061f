use Rattle.std.proofs.Common.{◌≡◌, ◌≤◌, take}
use Rattle.form_parts.specs.Chains.{last_link, IsCalleeLength}
use Rattle.form_parts.specs.Opened.{opened}
use Rattle.form_parts.proofs.chains.callee_length.Given as goal

abbrev pub invariant-loop-at : goal.invariant-loop-at
invariant-loop-at l = record {
  so_far : l.link ≡ last_link (take l.at l.tokens);
  few : opened l.link ≤ l.at;
  best : IsCalleeLength (take l.at l.tokens) l.len;
}
