use Rattle.std.proofs.Common.{◌≡◌, take}
use Rattle.std.specs.Prelude.{Some}
use Rattle.support_text.specs.MadeView.{made}
use Rattle.support_text.specs.Steps.{made_by}
use Rattle.support_text.proofs.making.follow_all.Given as goal

abbrev pub invariant-loop-step : goal.invariant-loop-step
invariant-loop-step l = made_by (take l.step-index l.steps) ≡ Some (made l.making)
