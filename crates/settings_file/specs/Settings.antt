-- What a settings file says: a TOML document with no key other than `target` and `note`.
use Rattle.std.specs.Prelude.{ℕ, Bool, true, false, ◌&&◌, ◌||◌, nat_le, List, length, Option, Some, None, option_map, option_and_then, if◌then◌else◌, codes}
use Rattle.std.specs.List.{list_all}
use Rattle.std.specs.Str.{bytes_eq, is_utf8}
use Rattle.up_base.specs.Names.{is_printable}
use Rattle.toml.specs.Data.{Data, string, Members, no_members, member, get_member}
use Rattle.toml.specs.Parse.{parse_document}

-- what is set: whether the target is a library, and the note
pub record Given : Type 0 where
  pub library : Bool
  pub note : Option (List ℕ)

-- whether a text can be a note
abbrev pub is_note : List ℕ → Bool
is_note text = nat_le (length text) 200 && list_all is_printable text

-- whether a key may stand in a settings file
abbrev pub is_setting : List ℕ → Bool
is_setting key = bytes_eq key (codes "target") || bytes_eq key (codes "note")

abbrev pub has_settings_alone : Members → Bool
has_settings_alone no_members = true
has_settings_alone (member key value others) = is_setting key && has_settings_alone others

-- whether the word of a target names a library; "auto" goes by the project
abbrev pub library_by : List ℕ → Option Bool
library_by word = if bytes_eq word (codes "auto") then Some false else if bytes_eq word (codes "library") then Some true else None

-- what the value of `target` sets, if there is one
abbrev pub target_of : Option Data → Option Bool
target_of None = Some false
target_of (Some (string word)) = library_by word
target_of (Some other) = None

-- what the value of `note` sets, if there is one
abbrev pub note_of : Option Data → Option (Option (List ℕ))
note_of None = Some None
note_of (Some (string text)) = if is_note text then Some (Some text) else None
note_of (Some other) = None

abbrev pub set : Option Bool → Option (Option (List ℕ)) → Option Given
set library note = option_and_then (λ l. option_map (λ n. record { library = l; note = n }) note) library

-- what a table sets, if it is one of settings
abbrev pub settings_in : Members → Option Given
settings_in members =
    if has_settings_alone members then set (target_of (get_member (codes "target") members)) (note_of (get_member (codes "note") members))
    else None

-- the table that bytes write, if they are a document
unfoldable pub document_of : List ℕ → Option Members
document_of bytes = if is_utf8 bytes then parse_document bytes else None

-- what the bytes of a settings file set, if they are of its form
abbrev pub settings_of : List ℕ → Option Given
settings_of bytes = option_and_then settings_in (document_of bytes)
