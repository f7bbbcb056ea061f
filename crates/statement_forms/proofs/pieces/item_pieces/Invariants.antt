use Rattle.std.proofs.Common.{◌≡◌, ◌≤◌, ◌+◌, length, List, ◌++◌}
use Rattle.form_parts.specs.declared.cuts.Separator.TheVariants as sep
use Rattle.form_parts.specs.Cuts.{pieces}
use Rattle.statement_forms.specs.Pieces.{Slot, list_slots, slots_at, ArePieces, ItemMeans}
use Rattle.statement_forms.proofs.pieces.item_pieces.Given as goal

abbrev pub invariant-loop-part : goal.invariant-loop-part
invariant-loop-part l =
    ((done : List Slot) × (list_slots l.tokens ≡ done ++ slots_at l.from l.start (pieces sep.Comma l.rest)) × ArePieces (ItemMeans l.erases) done l.pieces) × (l.start + length l.rest ≤ 1 + length l.tokens)

abbrev pub decreases-loop-part : goal.decreases-loop-part
decreases-loop-part l = length l.rest
