-- How the files of an outlet in memory lie in one buffer.
use Rattle.std.specs.Prelude.{ℕ, ◌+◌, ◌≤◌, List, length, take, drop, map}
use Rattle.std.specs.List.{All}
use Rattle.up_base.specs.MemoryTwins.{Entries}
use Rattle.up_base.specs.declared.file_store.Entry.{Entry}

-- as many bytes from a place on
abbrev pub part : List ℕ → ℕ → ℕ → List ℕ
part buffer start len = take len (drop start buffer)

-- the name and the bytes of an entry, which lie side by side
abbrev pub file_of : List ℕ → Entry → List ℕ × List ℕ
file_of buffer e = (part buffer e.start e.name_len, part buffer (e.start + e.name_len) e.len)

abbrev pub files_of : List ℕ → List Entry → Entries
files_of buffer entries = map (file_of buffer) entries

-- an entry ends at a place or before it
abbrev pub EndsBy : ℕ → Entry → Type 0
EndsBy end e = e.start + e.name_len + e.len ≤ end

-- each entry lies within the buffer, and what is left fits the memory that was taken
pub record IsLaid (buffer : List ℕ) (entries : List Entry) (files_left bytes_left file_room byte_room : ℕ) : Type 0 where
  pub within : All (EndsBy (length buffer)) entries
  pub files_fit : length entries + files_left ≤ file_room
  pub bytes_fit : length buffer + bytes_left ≤ byte_room
