-- The folder, the outlet and the console in memory that never fail: what each holds, and how a call changes it.
use Rattle.std.specs.Prelude.{ℕ, Bool, false, cond, not, ◌||◌, List, Option, Some, None}
use Rattle.up_base.specs.Outside.{Files}
use Rattle.up_base.specs.MemoryTwins.{next, Entries, lookup, Store, no_files, has_room, removed, appended, Speech, no_speech, has_space, spoken}

-- a folder that never fails, and the number of its calls
pub record SureFolderState : Type 0 where
  pub files : Entries
  pub made : ℕ

-- an outlet that never fails, whether a file came that did not fit, and the number of its calls
pub record SureOutletState : Type 0 where
  pub store : Store
  pub is_past : Bool
  pub made : ℕ

-- what it holds, told while each file fitted
abbrev pub told_files : SureOutletState → Option Files
told_files s = cond s.is_past None (Some (lookup s.store.files))

-- no call yet
abbrev pub new_outlet : ℕ → ℕ → SureOutletState
new_outlet files bytes = record { store = no_files files bytes; is_past = false; made = 0 }

-- the outlet after a put, which keeps nothing from the first file on that does not fit
abbrev pub after_sure_put : SureOutletState → List ℕ → List ℕ → SureOutletState
after_sure_put s name bytes = record { store = cond (s.is_past || not (has_room s.store name bytes)) s.store (appended (removed s.store name) name bytes); is_past = s.is_past || not (has_room s.store name bytes); made = next s.made }

-- a console that never fails, whether a piece came that did not fit, and the number of its calls
pub record SureConsoleState : Type 0 where
  pub speech : Speech
  pub is_past : Bool
  pub made : ℕ

-- what it said, told while each piece fitted
abbrev pub told_said : SureConsoleState → Option (List ℕ)
told_said s = cond s.is_past None (Some s.speech.said)

-- no call yet
abbrev pub new_console : ℕ → SureConsoleState
new_console bytes = record { speech = no_speech bytes; is_past = false; made = 0 }

-- the console after a call, which keeps nothing from the first piece on that does not fit
abbrev pub after_sure_say : SureConsoleState → List ℕ → SureConsoleState
after_sure_say s piece = record { speech = cond (s.is_past || not (has_space s.speech piece)) s.speech (spoken s.speech piece); is_past = s.is_past || not (has_space s.speech piece); made = next s.made }
