-- The folder, the outlet and the console that are kept in memory: what each holds, and how a call changes it.
use Rattle.std.specs.Prelude.{ℕ, ◌+◌, ◌-◌, ◌^◌, min, Bool, true, cond, not, ◌&&◌, ◌||◌, nat_le, nat_eq, List, [], ◌∷◌, ◌++◌, length, Option, Some, None, is_none}
use Rattle.std.specs.List.{list_any, filter}
use Rattle.std.specs.Map.{lookup as lookup_by}
use Rattle.std.specs.Cmp.Lexicographic.{pointwise}
use Rattle.up_base.specs.Outside.{Files}

-- the calls so far: how many there were, how many of them failed, and the numbers from 1 of those that are to fail
pub record Calls : Type 0 where
  pub failing : List ℕ
  pub made : ℕ
  pub faults : ℕ

-- one more in a count of 64 bits, which stays at its last value
abbrev pub next : ℕ → ℕ
next n = min (n + 1) (2 ^ 64 - 1)

-- no call yet
abbrev pub no_calls : List ℕ → Calls
no_calls failing = record { failing = failing; made = 0; faults = 0 }

-- whether the next call is to fail
abbrev pub is_listed : Calls → Bool
is_listed c = list_any (λ n. nat_eq n (next c.made)) c.failing

-- the calls after one more, which failed or not
abbrev pub with_call : Calls → Bool → Calls
with_call c fails = record { failing = c.failing; made = next c.made; faults = cond fails (next c.faults) c.faults }

-- a count of calls, told while it is below the last value of 64 bits
abbrev pub told : ℕ → Option ℕ
told made = cond (nat_le (2 ^ 64 - 1) made) None (Some made)

-- names with their bytes
abbrev pub Entries : Type 0
Entries = List (List ℕ × List ℕ)

-- whether two names are one, character by character
abbrev pub is_spelt : List ℕ → List ℕ → Bool
is_spelt a b = pointwise nat_eq a b

-- the files that entries stand for: a name has the bytes of its first entry
abbrev pub lookup : Entries → Files
lookup entries name = lookup_by (is_spelt name) entries

-- whether no entry has the name of one after it
abbrev pub are_distinct : Entries → Bool
are_distinct [] = true
are_distinct (e ∷ es) = is_none (lookup es e.0) && are_distinct es

-- the entries of all other names
abbrev pub without : List ℕ → Entries → Entries
without name entries = filter (λ e. not (is_spelt name e.0)) entries

-- a folder in memory
pub record FolderState : Type 0 where
  pub files : Entries
  pub calls : Calls

-- the files of an outlet in memory, and the room that is left
pub record Store : Type 0 where
  pub files : Entries
  pub files_left : ℕ
  pub bytes_left : ℕ

-- no file, and room for as many files and for as many bytes of names and contents
abbrev pub no_files : ℕ → ℕ → Store
no_files files bytes = record { files = []; files_left = files; bytes_left = bytes }

-- whether one more file fits
abbrev pub has_room : Store → List ℕ → List ℕ → Bool
has_room s name bytes = nat_le 1 s.files_left && nat_le (length name + length bytes) s.bytes_left

-- the store without the name
abbrev pub removed : Store → List ℕ → Store
removed s name = record s { files = without name s.files }

-- the store with a file behind the others
abbrev pub appended : Store → List ℕ → List ℕ → Store
appended s name bytes = record { files = s.files ++ (name, bytes) ∷ []; files_left = s.files_left - 1; bytes_left = s.bytes_left - (length name + length bytes) }

-- an outlet in memory
pub record OutletState : Type 0 where
  pub store : Store
  pub calls : Calls

-- whether the next call, which puts these bytes under the name, fails
abbrev pub put_fails : OutletState → List ℕ → List ℕ → Bool
put_fails s name bytes = is_listed s.calls || not (has_room s.store name bytes)

-- the outlet after that call
abbrev pub after_put : OutletState → List ℕ → List ℕ → OutletState
after_put s name bytes = record { store = cond (put_fails s name bytes) (removed s.store name) (appended (removed s.store name) name bytes); calls = with_call s.calls (put_fails s name bytes) }

-- what was said, and how many more bytes can be
pub record Speech : Type 0 where
  pub said : List ℕ
  pub bytes_left : ℕ

-- nothing said, and room for as many bytes
abbrev pub no_speech : ℕ → Speech
no_speech bytes = record { said = []; bytes_left = bytes }

-- whether a piece fits
abbrev pub has_space : Speech → List ℕ → Bool
has_space s piece = nat_le (length piece) s.bytes_left

-- the speech with a piece at its end
abbrev pub spoken : Speech → List ℕ → Speech
spoken s piece = record { said = s.said ++ piece; bytes_left = s.bytes_left - length piece }

-- a console in memory
pub record ConsoleState : Type 0 where
  pub speech : Speech
  pub calls : Calls

-- whether the next call, which says the piece, fails
abbrev pub say_fails : ConsoleState → List ℕ → Bool
say_fails s piece = is_listed s.calls || not (has_space s.speech piece)

-- the console after that call
abbrev pub after_say : ConsoleState → List ℕ → ConsoleState
after_say s piece = record { speech = cond (say_fails s piece) s.speech (spoken s.speech piece); calls = with_call s.calls (say_fails s piece) }
