-- What is read under a limit on its length.
use Rattle.std.specs.Prelude.{ℕ, ◌≤◌, length}
use Rattle.up_base.specs.declared.folder.Found.{Found}
use Rattle.up_base.specs.declared.folder.Found.TheVariants.{Whole, Absent, TooLong}

-- no more bytes are handed out than the limit
abbrev pub IsWithin : ℕ → Found → Type 0
IsWithin limit (Whole bytes) = length bytes ≤ limit
IsWithin limit Absent = Unit {0}
IsWithin limit TooLong = Unit {0}
