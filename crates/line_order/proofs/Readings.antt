-- The numbers of the logical lines of a text rise.
use Rattle.std.proofs.Common.{ℕ, ◌+◌, Option, Some, None, List, [], ◌∷◌, map, arith}
use Rattle.up_base.specs.declared.place.Fault.{Fault}
use Rattle.vb_tree.specs.declared.token.Line.{Line}
use Rattle.vb_tree.specs.LogicalLines.{physical_lines, joined, joints, Reading, reading, readings_from, readings, lines_before_fault}
use Rattle.line_order.specs.Order.{AreRising}
use Rattle.line_order.proofs.Rising.{from_lower, again}

-- the numbers of logical lines
abbrev pub numbers : List Line → List ℕ
numbers lines = map (λ (l : Line). l.place.line) lines

-- a reading stands before others that rise from its line's number
before_others : (r : Reading) (rs : List Reading) → AreRising r.line.place.line (numbers (lines_before_fault rs)) → AreRising r.line.place.line (numbers (lines_before_fault (r ∷ rs)))
before_others r rs h = of_fault r.fault
  where
    of_fault : (o : Option Fault) → AreRising r.line.place.line (numbers (elim o [ Some fault ↦ [] | None ↦ r.line ∷ lines_before_fault rs ]))
    of_fault (Some fault) = tt
    of_fault None = again r.line.place.line (numbers (lines_before_fault rs)) h

readings_rise : (file number : ℕ) (lines : List (List ℕ)) → AreRising number (numbers (lines_before_fault (readings_from file number lines)))
unfolding reading
readings_rise file number [] = tt
readings_rise file number (units ∷ lines) =
    let next = number + 1 + joints units in
    let others = readings_from file next lines in
    before_others (reading file number units) others
    (from_lower number next (numbers (lines_before_fault others)) (omega arith) (readings_rise file next lines))

pub lines_rise : (file : ℕ) (text : List ℕ) → AreRising 0 (numbers (lines_before_fault (readings file text)))
unfolding readings
lines_rise file text =
    let lines = joined (physical_lines text) in
    from_lower 0 1 (numbers (lines_before_fault (readings_from file 1 lines))) (omega arith) (readings_rise file 1 lines)
