use Rattle.std.proofs.Common.{◌≡◌, take}
use Rattle.statement_forms.specs.Fronts.{ends_dot}
use Rattle.statement_forms.specs.LineForms.{NotDrawn}
use Rattle.statement_forms.proofs.drawing.drawn_length.Given as goal

abbrev pub invariant-loop-at : goal.invariant-loop-at
invariant-loop-at l = record {
  dotted : l.behind_dot ≡ ends_dot (take l.at l.tokens);
  none : NotDrawn (take l.at l.tokens);
}
