-- The texts that a folder holds, and how many bytes may be read.
use Rattle.std.specs.Prelude.{◌≡◌, ℕ, ◌≤◌, ◌<◌, nat_lt, Bool, cond, List, map, length, Option, Some, None, unwrap_or}
use Rattle.std.specs.List.{list_all}
use Rattle.up_base.specs.Outside.{Files}
use Rattle.up_base.specs.Windows1252.{unit_of, is_undefined}

-- the most bytes of one file
abbrev pub file_limit : ℕ
file_limit = 1048576

-- the most bytes of the project file and of all modules' files together
abbrev pub total_limit : ℕ
total_limit = 16777216

-- a file of these bytes is held, and it isn't too long
pub record HeldText (files : Files) (name bytes : List ℕ) : Type 0 where
  pub held : files name ≡ Some bytes
  pub short : length bytes ≤ file_limit

-- the file under this name has more bytes than are read
pub record IsTooLong (files : Files) (name : List ℕ) : Type 0 where
  pub bytes : List ℕ
  pub held : files name ≡ Some bytes
  pub long : file_limit < length bytes

-- the bytes of what may be held
abbrev pub size_of : Option (List ℕ) → ℕ
size_of None = 0
size_of (Some bytes) = length bytes

abbrev pub is_byte : ℕ → Bool
is_byte n = nat_lt n 256

abbrev pub are_bytes : List ℕ → Bool
are_bytes bytes = list_all is_byte bytes

-- the unit that a byte stands for by Windows-1252; a byte without a character, and a number that is no byte, becomes 7F hex,
-- a control unit, which no text may hold
abbrev pub unit_or_delete : ℕ → ℕ
unit_or_delete n = cond (is_byte n) (unwrap_or (unit_of n) 127) 127

abbrev pub decoded : List ℕ → List ℕ
decoded bytes = map unit_or_delete bytes

-- a byte, and 7F hex for one without a character
abbrev pub filled : ℕ → ℕ
filled byte = cond (is_undefined byte) 127 byte
