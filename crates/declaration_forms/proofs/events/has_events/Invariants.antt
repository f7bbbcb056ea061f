use Rattle.std.proofs.Common.{◌≡◌, length}
use Rattle.form_parts.specs.Cuts.{pieces}
use Rattle.form_parts.specs.declared.cuts.Separator.TheVariants.{Comma}
use Rattle.declaration_forms.specs.Starts.{has_events}
use Rattle.declaration_forms.proofs.events.has_events.Given as goal

abbrev pub decreases-loop-piece : goal.decreases-loop-piece
decreases-loop-piece l = length l.rest

abbrev pub invariant-loop-piece : goal.invariant-loop-piece
invariant-loop-piece l = has_events (pieces Comma l.fn.list) ≡ has_events (pieces Comma l.rest)
