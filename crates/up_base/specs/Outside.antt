-- What the outside holds and counts, as far as it is told, and what one call does to that.
use Rattle.std.specs.Prelude.{◌≡◌, ◌≢◌, ◌⊎◌, ◌+◌, ◌-◌, ◌^◌, ◌<◌, ◌≤◌, ℕ, min, List, ◌++◌, length, take, Option, Some, None, Result, Ok, Err}
use Rattle.up_base.specs.declared.folder.Found.{Found}
use Rattle.up_base.specs.declared.folder.Found.TheVariants.{Whole, Absent, TooLong}

-- what a store of files holds: the bytes under a name, or none where the name isn't in it
abbrev pub Files : Type 0
Files = List ℕ → Option (List ℕ)

-- where a thing is told after a call it was told before it, and then P holds of both
abbrev pub IfTold : {A : Type 0} → Option A → Option A → (A → A → Type 0) → Type 0
IfTold before None P = Unit {0}
IfTold None (Some after) P = ⊥
IfTold (Some before) (Some after) P = P before after

-- a count rose, or stands at the last value of 64 bits
abbrev pub Rose : ℕ → ℕ → Type 0
Rose before after = min (before + 1) (2 ^ 64 - 1) ≤ after

-- the call was counted, where calls are counted
abbrev pub CountsCall : Option ℕ → Option ℕ → Type 0
CountsCall before after = IfTold before after (λ b a. a ≡ b + 1)

-- what a file's reading finds under a limit on its length
abbrev pub IsFound : Option (List ℕ) → ℕ → Found → Type 0
IsFound None limit Absent = Unit {0}
IsFound None limit (Whole bytes) = ⊥
IsFound None limit TooLong = ⊥
IsFound (Some content) limit Absent = ⊥
IsFound (Some content) limit (Whole bytes) = (bytes ≡ content) × (length content ≤ limit)
IsFound (Some content) limit TooLong = limit < length content

-- no name but this one holds other bytes than before
abbrev pub ChangesOnly : List ℕ → Files → Files → Type 0
ChangesOnly name before after = (n : List ℕ) → n ≢ name → after n ≡ before n

-- the name is absent or holds a prefix of these bytes, and nothing else changed
abbrev pub LeavesPrefix : List ℕ → List ℕ → Files → Files → Type 0
LeavesPrefix name bytes before after = ((after name ≡ None) ⊎ ((k : ℕ) × (after name ≡ Some (take k bytes)))) × ChangesOnly name before after

-- at Ok the name holds these bytes; after a failure it is absent or holds a prefix of them
abbrev pub IsPut : {E : Type 0} → List ℕ → List ℕ → Result Unit E → Files → Files → Type 0
IsPut name bytes (Ok u) before after = (after name ≡ Some bytes) × ChangesOnly name before after
IsPut name bytes (Err e) before after = LeavesPrefix name bytes before after

-- at Ok the piece was said; after a failure a prefix of it was
abbrev pub IsSaid : {E : Type 0} → List ℕ → Result Unit E → List ℕ → List ℕ → Type 0
IsSaid piece (Ok u) before after = after ≡ before ++ piece
IsSaid piece (Err e) before after = (k : ℕ) × (after ≡ before ++ take k piece)
