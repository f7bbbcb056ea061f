use Rattle.std.proofs.Common.{◌≡◌, ◌≤◌, take, drop}
use Rattle.declaration_forms.specs.Outlines.{typed, typed_in}
use Rattle.declaration_forms.proofs.Ends.{behind}
use Rattle.declaration_forms.proofs.outlines.typed.Given as goal

abbrev pub invariant-loop-at : goal.invariant-loop-at
invariant-loop-at l = record {
  few : l.unclosed ≤ l.at;
  so_far : typed l.tokens ≡ behind (take l.at l.tokens) (typed_in l.unclosed (drop l.at l.tokens));
}
