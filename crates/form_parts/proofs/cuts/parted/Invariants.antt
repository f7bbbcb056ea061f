use Rattle.std.proofs.Common.{◌≡◌, ◌≤◌, take, drop}
use Rattle.form_parts.specs.Cuts.{parted, parted_in}
use Rattle.form_parts.proofs.Parting.{behind}
use Rattle.form_parts.proofs.cuts.parted.Given as goal

abbrev pub invariant-loop-at : goal.invariant-loop-at
invariant-loop-at l = record {
  few : l.unclosed ≤ l.at;
  so_far : parted l.separator l.tokens ≡ behind (take l.at l.tokens) (parted_in l.separator l.unclosed (drop l.at l.tokens));
}
