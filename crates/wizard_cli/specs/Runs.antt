-- What a run of the wizard answers, leaves and says.
use Rattle.std.specs.Prelude.{◌≡◌, ◌⊎◌, ℕ, ◌+◌, List, ◌++◌, take, length, codes, Option, IfSome, Some, slice_get}
use Rattle.up_base.specs.MemoryTwins.{lookup}
use Rattle.up_base.specs.Outside.{Files, IfTold}
use Rattle.up_base.specs.declared.place.Fault.{Fault}
use Rattle.vb_tree.specs.Tree.{Project}
use Rattle.net_tree.specs.Text.{IsWritable}
use Rattle.project_loader.specs.Held.{HeldProject}
use Rattle.project_loader.specs.Faults.{FirstFault, file_names}
use Rattle.project_loader.specs.Loading.{ReadingOrder, ReadsAll, ReadsUpTo}
use Rattle.command_words.specs.Asks.{Asks}
use Rattle.command_words.specs.declared.asked.Asked.{Asked}
use Rattle.command_words.specs.declared.asked.Asked.TheVariants as asked
use Rattle.settings_file.specs.Settings.{Given}
use Rattle.generated_project.specs.Generated.{generated_files}
use Rattle.wizard_cli.specs.declared.answer.Answer.{Answer}
use Rattle.wizard_cli.specs.declared.answer.Answer.TheVariants.{Done, Same, Differs, Made, Rules, BadWords, SettingsRefused, Refused, ReadFault, WriteFault, OutOfMemory}
use Rattle.wizard_cli.specs.declared.answer.Numbers.{Numbers}
use Rattle.wizard_cli.specs.declared.answer.Status.{Status}
use Rattle.wizard_cli.specs.declared.answer.Status.TheVariants as status
use Rattle.wizard_cli.specs.Answers.{answer_text, status_of}
use Rattle.wizard_cli.specs.Headline.{put_order, PutUpTo, HoldFiles, IsUpgrade, IsUpgraded, report_of}
use Rattle.wizard_cli.specs.Settings.{AreSet, AreRefused, no_settings, settings_names}
use Rattle.wizard_cli.specs.Upgrading.{HasProcedures}

-- what the folder and the outlet tell of one run: what they held before and after it, and how many calls they had had
pub record Told : Type 0 where
  pub held : Option Files
  pub reads_before : Option ℕ
  pub reads_after : Option ℕ
  pub outlet_before : Option Files
  pub outlet_after : Option Files
  pub puts_before : Option ℕ
  pub puts_after : Option ℕ

-- the words ask for the upgrade of the project under a name by the settings of a file, or for its check
abbrev pub AsksFor : List (List ℕ) → (file : List ℕ) → (settings : Option (List ℕ)) → Type 0
AsksFor words file settings = Asks words (asked.Upgrade file settings) ⊎ Asks words (asked.Check file settings)

-- ---- projects that are translated

-- the folder holds the project under a name and the settings of a file, and this is the upgrade of it, with so many issues
pub record Translates (held : Option Files) (file : List ℕ) (settings : Option (List ℕ)) (count : ℕ) : Type 0 where
  pub project : Project
  pub given : Given
  pub told : IfSome held (λ files. AreSet files settings given × HeldProject files file project)
  pub upgrade : IsUpgrade file project given count
  pub writable : IsWritable upgrade.net_project

-- the files that are read for it, in order
abbrev pub names_read : {held : Option Files} {file : List ℕ} {settings : Option (List ℕ)} {count : ℕ} → Translates held file settings count → List (List ℕ)
names_read {held} {file} {settings} t = settings_names settings ++ file_names file t.project.file.entries

-- the files that are written for it, by their names, in the order in which they are put
abbrev pub files_written : {held : Option Files} {file : List ℕ} {settings : Option (List ℕ)} {count : ℕ} → Translates held file settings count → List (List ℕ × List ℕ)
files_written t = put_order t.upgrade.net_project (report_of t.upgrade)

-- the files that are read before one is written or compared, in order: the settings file where one is named, then those of the project
abbrev pub RunOrder : Option Files → (file : List ℕ) → (settings : Option (List ℕ)) → List (List ℕ) → Type 0
RunOrder held file settings order = (rest : List (List ℕ)) × ReadingOrder held file rest × (order ≡ settings_names settings ++ rest)

-- The folder failed at the file of this name, the last of those that were read. Before and after are the counts of its calls.
abbrev pub StopsReading : Option Files → (before after : Option ℕ) → (file : List ℕ) → (settings : Option (List ℕ)) → (said : List ℕ) → Type 0
StopsReading held before after file settings said = (order : List (List ℕ)) × RunOrder held file settings order × ReadsUpTo before after order said

-- the settings are of their form, and this is the first fault of the project
abbrev pub HasFault : Files → (file : List ℕ) → (settings : Option (List ℕ)) → (said : List ℕ) → Fault → Type 0
HasFault files file settings said fault = ((given : Given) × AreSet files settings given) × FirstFault files file said fault

-- ---- upgrade

-- the project under a name was upgraded, with so many issues
abbrev pub Upgrades : Told → (file : List ℕ) → (settings : Option (List ℕ)) → (count : ℕ) → Type 0
Upgrades told file settings count = IfSome told.held (λ files. IfTold told.outlet_before told.outlet_after (IsUpgraded files file settings count))

-- the writing stopped at the file of this name
pub record StopsWriting (told : Told) (file : List ℕ) (settings : Option (List ℕ)) (said : List ℕ) : Type 0 where
  pub count : ℕ
  pub translates : Translates told.held file settings count
  -- the place in the order in which the files are put
  pub place : ℕ
  pub bytes : List ℕ
  pub is_said : slice_get (files_written translates) place ≡ Some (said, bytes)
  pub left : IfTold told.outlet_before told.outlet_after (PutUpTo (files_written translates) place)
  pub calls : IfTold told.puts_before told.puts_after (λ b a. a ≡ b + (place + 1))

-- ---- check

-- The comparing came to the file of this name: the folder holds all before it as they would be written, and this was the last that was read.
pub record ComesTo (held : Option Files) (before after : Option ℕ) (file : List ℕ) (settings : Option (List ℕ)) (said : List ℕ) : Type 0 where
  pub count : ℕ
  pub translates : Translates held file settings count
  -- the place in the order in which the files would be put
  pub place : ℕ
  pub bytes : List ℕ
  pub is_said : slice_get (files_written translates) place ≡ Some (said, bytes)
  pub same : IfSome held (HoldFiles (take place (files_written translates)))
  pub calls : IfTold before after (λ b a. a ≡ b + (length (names_read translates) + (place + 1)))

-- all files stand in the folder as they would be written, and each was read once
pub record AllSame (held : Option Files) (before after : Option ℕ) (file : List ℕ) (settings : Option (List ℕ)) (count : ℕ) : Type 0 where
  pub translates : Translates held file settings count
  pub same : IfSome held (HoldFiles (files_written translates))
  pub calls : IfTold before after (λ b a. a ≡ b + (length (names_read translates) + length (files_written translates)))

-- the file of this name is the first that is absent or another one than would be written
pub record FirstUnlike (held : Option Files) (before after : Option ℕ) (file : List ℕ) (settings : Option (List ℕ)) (said : List ℕ) : Type 0 where
  pub comes : ComesTo held before after file settings said
  pub unlike : IfSome held (λ files. ¬ (files said ≡ Some comes.bytes))

-- ---- make

-- what there is in the generated project of so many modules: its procedures and issues, and the procedures that are clean
pub record AreNumbers (modules : ℕ) (numbers : Numbers) : Type 0 where
  pub modules_are : numbers.modules ≡ modules
  pub project : Project
  pub held : HeldProject (lookup (generated_files modules)) (codes "Gen.vbp") project
  pub upgrade : IsUpgrade (codes "Gen.vbp") project no_settings numbers.issues
  pub has_procedures : HasProcedures project numbers.procedures numbers.clean

-- ---- answers

-- How the upgrade of the project under a name by the settings of a file came to an answer. Untouched says that the outlet is as it was.
abbrev pub UpgradeAnswer : Told → (untouched : Type 0) → (file : List ℕ) → (settings : Option (List ℕ)) → Answer → Type 0
UpgradeAnswer told untouched file settings (Done count) =
    ((t : Translates told.held file settings count) × ReadsAll told.reads_before told.reads_after (names_read t)) × Upgrades told file settings count
UpgradeAnswer told untouched file settings (Same count) = ⊥
UpgradeAnswer told untouched file settings (Differs said) = ⊥
UpgradeAnswer told untouched file settings (Made numbers) = ⊥
UpgradeAnswer told untouched file settings Rules = ⊥
UpgradeAnswer told untouched file settings BadWords = ⊥
UpgradeAnswer told untouched file settings (SettingsRefused said) = (settings ≡ Some said) × IfSome told.held (λ files. AreRefused files said) × untouched
UpgradeAnswer told untouched file settings (Refused said fault) = IfSome told.held (λ files. HasFault files file settings said fault) × untouched
UpgradeAnswer told untouched file settings (ReadFault said) = StopsReading told.held told.reads_before told.reads_after file settings said × untouched
UpgradeAnswer told untouched file settings (WriteFault said) = StopsWriting told file settings said
UpgradeAnswer told untouched file settings OutOfMemory = untouched

-- how its check came to an answer, which has nothing to do with the outlet
abbrev pub CheckAnswer : Option Files → (before after : Option ℕ) → (file : List ℕ) → (settings : Option (List ℕ)) → Answer → Type 0
CheckAnswer held before after file settings (Done count) = ⊥
CheckAnswer held before after file settings (Same count) = AllSame held before after file settings count
CheckAnswer held before after file settings (Differs said) = FirstUnlike held before after file settings said
CheckAnswer held before after file settings (Made numbers) = ⊥
CheckAnswer held before after file settings Rules = ⊥
CheckAnswer held before after file settings BadWords = ⊥
CheckAnswer held before after file settings (SettingsRefused said) = (settings ≡ Some said) × IfSome held (λ files. AreRefused files said)
CheckAnswer held before after file settings (Refused said fault) = IfSome held (λ files. HasFault files file settings said fault)
CheckAnswer held before after file settings (ReadFault said) = StopsReading held before after file settings said ⊎ ComesTo held before after file settings said
CheckAnswer held before after file settings (WriteFault said) = ⊥
CheckAnswer held before after file settings OutOfMemory = Unit {0}

-- how the translation of the generated project of so many modules came to an answer
abbrev pub MakeAnswer : (modules : ℕ) → Answer → Type 0
MakeAnswer modules (Done count) = ⊥
MakeAnswer modules (Same count) = ⊥
MakeAnswer modules (Differs said) = ⊥
MakeAnswer modules (Made numbers) = AreNumbers modules numbers
MakeAnswer modules Rules = ⊥
MakeAnswer modules BadWords = ⊥
MakeAnswer modules (SettingsRefused said) = ⊥
MakeAnswer modules (Refused said fault) = ⊥
MakeAnswer modules (ReadFault said) = ⊥
MakeAnswer modules (WriteFault said) = ⊥
MakeAnswer modules OutOfMemory = Unit {0}

-- How a run came to an answer: by the command that its words ask for, by none where they ask for nothing, or for want of memory. Untouched
-- says that the outlet is as it was, and unread that the folder is.
pub data IsAnswer (words : List (List ℕ)) (told : Told) (untouched unread : Type 0) (answer : Answer) : Type 0 where
  upgrades : (file : List ℕ) (settings : Option (List ℕ)) → Asks words (asked.Upgrade file settings) → UpgradeAnswer told untouched file settings answer → IsAnswer words told untouched unread answer
  checks : (file : List ℕ) (settings : Option (List ℕ)) → Asks words (asked.Check file settings) → CheckAnswer told.held told.reads_before told.reads_after file settings answer → untouched → IsAnswer words told untouched unread answer
  makes : (modules : ℕ) → Asks words (asked.Make modules) → MakeAnswer modules answer → untouched → unread → IsAnswer words told untouched unread answer
  lists : Asks words asked.Rules → answer ≡ Rules → untouched → unread → IsAnswer words told untouched unread answer
  asks_nothing : ((a : Asked) → ¬ (Asks words a)) → answer ≡ BadWords → untouched → unread → IsAnswer words told untouched unread answer
  wants_memory : answer ≡ OutOfMemory → untouched → unread → IsAnswer words told untouched unread answer

-- the answer is said and gives the status; where the console fails, a prefix of it is said and that is the status
abbrev pub Concludes : Answer → Option (List ℕ) → Option (List ℕ) → Status → Type 0
Concludes answer before after ended =
    ((ended ≡ status_of answer) × IfTold before after (λ b a. a ≡ b ++ answer_text answer))
    ⊎ ((ended ≡ status.ConsoleFault) × IfTold before after (λ b a. (k : ℕ) × (a ≡ b ++ take k (answer_text answer))))

-- the run ended with the status of this answer, and said just that
abbrev pub EndsAs : Answer → Option (List ℕ) → Option (List ℕ) → Status → Type 0
EndsAs answer before after ended = (ended ≡ status_of answer) × IfTold before after (λ b a. a ≡ b ++ answer_text answer)

-- a run that was done: without issues, or with some
abbrev pub IsDone : Status → Type 0
IsDone ended = (ended ≡ status.Done) ⊎ (ended ≡ status.DoneWithIssues)

-- the folder failed, memory was wanted, or the console failed
abbrev pub IsStopped : Status → Type 0
IsStopped ended = (ended ≡ status.ReadFault) ⊎ (ended ≡ status.OutOfMemory) ⊎ (ended ≡ status.ConsoleFault)

-- where the folder failed P holds, and where the outlet failed Q
abbrev pub OnFault : Answer → Type 0 → Type 0 → Type 0
OnFault (Done count) P Q = Unit {0}
OnFault (Same count) P Q = Unit {0}
OnFault (Differs said) P Q = Unit {0}
OnFault (Made numbers) P Q = Unit {0}
OnFault Rules P Q = Unit {0}
OnFault BadWords P Q = Unit {0}
OnFault (SettingsRefused said) P Q = Unit {0}
OnFault (Refused said fault) P Q = Unit {0}
OnFault (ReadFault said) P Q = P
OnFault (WriteFault said) P Q = Q
OnFault OutOfMemory P Q = Unit {0}
