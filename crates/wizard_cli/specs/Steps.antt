-- What the steps of a run come to.
use Rattle.std.specs.Prelude.{◌≡◌, ℕ, ◌+◌, List, take, length, Option, IfSome, Some, slice_get}
use Rattle.up_base.specs.Outside.{Files, IfTold}
use Rattle.wizard_cli.specs.declared.answer.Answer.{Answer}
use Rattle.wizard_cli.specs.declared.answer.Answer.TheVariants.{Done, Same, Differs, Made, Rules, BadWords, SettingsRefused, Refused, ReadFault, WriteFault, OutOfMemory}
use Rattle.wizard_cli.specs.Headline.{PutAll, PutUpTo, HoldFiles}
use Rattle.wizard_cli.specs.Runs.{HasFault, StopsReading}
use Rattle.wizard_cli.specs.Settings.{AreRefused}

-- why no settings were read: the file is refused, or the folder failed at it
abbrev pub StopsAtSettings : Option Files → (before after : Option ℕ) → (settings : Option (List ℕ)) → Answer → Type 0
StopsAtSettings held before after settings (Done count) = ⊥
StopsAtSettings held before after settings (Same count) = ⊥
StopsAtSettings held before after settings (Differs said) = ⊥
StopsAtSettings held before after settings (Made numbers) = ⊥
StopsAtSettings held before after settings Rules = ⊥
StopsAtSettings held before after settings BadWords = ⊥
StopsAtSettings held before after settings (SettingsRefused said) = (settings ≡ Some said) × IfSome held (λ files. AreRefused files said)
StopsAtSettings held before after settings (Refused said fault) = ⊥
StopsAtSettings held before after settings (ReadFault said) = (settings ≡ Some said) × IfTold before after (λ b a. a ≡ b + 1)
StopsAtSettings held before after settings (WriteFault said) = ⊥
StopsAtSettings held before after settings OutOfMemory = Unit {0}

-- why there is nothing to write for the project under a name by the settings of a file
abbrev pub StopsTranslating : Option Files → (before after : Option ℕ) → (file : List ℕ) → (settings : Option (List ℕ)) → Answer → Type 0
StopsTranslating held before after file settings (Done count) = ⊥
StopsTranslating held before after file settings (Same count) = ⊥
StopsTranslating held before after file settings (Differs said) = ⊥
StopsTranslating held before after file settings (Made numbers) = ⊥
StopsTranslating held before after file settings Rules = ⊥
StopsTranslating held before after file settings BadWords = ⊥
StopsTranslating held before after file settings (SettingsRefused said) = (settings ≡ Some said) × IfSome held (λ files. AreRefused files said)
StopsTranslating held before after file settings (Refused said fault) = IfSome held (λ files. HasFault files file settings said fault)
StopsTranslating held before after file settings (ReadFault said) = StopsReading held before after file settings said
StopsTranslating held before after file settings (WriteFault said) = ⊥
StopsTranslating held before after file settings OutOfMemory = Unit {0}

-- how the putting of files ended: all were put, and there are so many issues, or it stopped at the one of this name
abbrev pub PutAnswer : List (List ℕ × List ℕ) → (count : ℕ) → Option Files → Option Files → Option ℕ → Option ℕ → Answer → Type 0
PutAnswer files count held_before held_after calls_before calls_after (Done n) = (n ≡ count) × IfTold held_before held_after (PutAll files)
PutAnswer files count held_before held_after calls_before calls_after (Same n) = ⊥
PutAnswer files count held_before held_after calls_before calls_after (Differs said) = ⊥
PutAnswer files count held_before held_after calls_before calls_after (Made numbers) = ⊥
PutAnswer files count held_before held_after calls_before calls_after Rules = ⊥
PutAnswer files count held_before held_after calls_before calls_after BadWords = ⊥
PutAnswer files count held_before held_after calls_before calls_after (SettingsRefused said) = ⊥
PutAnswer files count held_before held_after calls_before calls_after (Refused said fault) = ⊥
PutAnswer files count held_before held_after calls_before calls_after (ReadFault said) = ⊥
PutAnswer files count held_before held_after calls_before calls_after (WriteFault said) =
    (place : ℕ) × (bytes : List ℕ) × (slice_get files place ≡ Some (said, bytes)) × IfTold held_before held_after (PutUpTo files place)
    × IfTold calls_before calls_after (λ b a. a ≡ b + (place + 1))
PutAnswer files count held_before held_after calls_before calls_after OutOfMemory = ⊥

-- the file at a place of a list is absent from the folder or another one there
abbrev pub IsUnlikeAt : List (List ℕ × List ℕ) → (place : ℕ) → Files → Type 0
IsUnlikeAt files place held = (name bytes : List ℕ) → slice_get files place ≡ Some (name, bytes) → ¬ (held name ≡ Some bytes)

-- the comparing came to this place in a list of files, and all before it are held
pub record ComparesTo (files : List (List ℕ × List ℕ)) (held : Option Files) (before after : Option ℕ) (place : ℕ) : Type 0 where
  pub same : IfSome held (HoldFiles (take place files))
  pub calls : IfTold before after (λ b a. a ≡ b + (place + 1))

-- how the comparing of files ended: all are held, and there are so many issues, or it stopped at the one of this name
abbrev pub CompareAnswer : List (List ℕ × List ℕ) → (count : ℕ) → Option Files → (before after : Option ℕ) → Answer → Type 0
CompareAnswer files count held before after (Done n) = ⊥
CompareAnswer files count held before after (Same n) = (n ≡ count) × IfSome held (HoldFiles files) × IfTold before after (λ b a. a ≡ b + length files)
CompareAnswer files count held before after (Differs said) =
    (place : ℕ) × (bytes : List ℕ) × (slice_get files place ≡ Some (said, bytes)) × ComparesTo files held before after place × IfSome held (λ f. ¬ (f said ≡ Some bytes))
CompareAnswer files count held before after (Made numbers) = ⊥
CompareAnswer files count held before after Rules = ⊥
CompareAnswer files count held before after BadWords = ⊥
CompareAnswer files count held before after (SettingsRefused said) = ⊥
CompareAnswer files count held before after (Refused said fault) = ⊥
CompareAnswer files count held before after (ReadFault said) =
    (place : ℕ) × (bytes : List ℕ) × (slice_get files place ≡ Some (said, bytes)) × ComparesTo files held before after place
CompareAnswer files count held before after (WriteFault said) = ⊥
CompareAnswer files count held before after OutOfMemory = Unit {0}
