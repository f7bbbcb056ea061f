-- The laws of reading: what was written is read back, and what is read was written.
use Rattle.std.specs.Prelude.{◌≡◌, ◌≤◌, ◌-◌, ℕ, true, List, Option, Some, None}
use Rattle.net_tree.specs.Tree.{Line, Project}
use Rattle.net_tree.specs.Spelling.{is_identifier}
use Rattle.net_exprs.specs.Fitting.{fits_name}
use Rattle.net_tree.specs.Lines.{line_text, is_writable_line}
use Rattle.net_tree.specs.Text.{IsWritable, NetText, files_of, is_note, is_writable_module, module_text}
use Rattle.net_reader.specs.Fits.{can_be_held, fits_line, fits_module}
use Rattle.net_reader.specs.LineReader.{line_at}
use Rattle.net_reader.specs.Places.{BeginsAs, IsFirstFault, IsReadable}
use Rattle.net_reader.specs.ModuleReader.{NotedModule, complete, module_in, stuck}
use Rattle.net_reader.specs.ProjectReader.{faulty, project_in, whole}

-- whether the comment at the head of a file may be this, by what is known of it
abbrev pub IsNoteKnown : Option (Option (List ℕ)) → Option (List ℕ) → Type 0
IsNoteKnown None head = Unit {0}
IsNoteKnown (Some known) head = known ≡ head

-- A law: a line of a procedure is read back.
abbrev pub LinesAreRead : Type 0
LinesAreRead = (l : Line) → is_writable_line l ≡ true → fits_line l ≡ true → line_at (line_text l) ≡ Some l

-- what is known of the comment can stand there
abbrev pub IsFineNote : Option (Option (List ℕ)) → Type 0
IsFineNote None = Unit {0}
IsFineNote (Some known) = is_note known ≡ true

-- a module of a name that can be written and read back, with a comment at the head of its file as it is known
pub record IsModuleOf (known : Option (Option (List ℕ))) (name : List ℕ) (m : NotedModule) : Type 0 where
  pub is_known : IsNoteKnown known m.note
  pub note : is_note m.note ≡ true
  pub named : m.tree.name ≡ name
  pub writable : is_writable_module m.tree ≡ true
  pub fits : fits_module m.tree ≡ true

abbrev pub file_of : NotedModule → List ℕ
file_of m = module_text m.note m.tree

-- A law: a module is read back from its file, whether the comment at its head is known before or not.
abbrev pub ModulesAreRead : Type 0
ModulesAreRead = (known : Option (Option (List ℕ))) (name : List ℕ) (m : NotedModule) → IsModuleOf known name m → module_in known name (file_of m) ≡ complete m

-- A law: a module that is read is one that its file stands for.
abbrev pub ReadModulesStand : Type 0
ReadModulesStand = (known : Option (Option (List ℕ))) (name file : List ℕ) (m : NotedModule) →
    IsFineNote known → is_identifier name ≡ true → fits_name name ≡ true → module_in known name file ≡ complete m → IsModuleOf known name m × (file ≡ file_of m)

-- Some module's file begins as a text does, so many lines.
abbrev pub ModuleBegins : Option (Option (List ℕ)) → (name : List ℕ) → (lines : ℕ) → (text : List ℕ) → Type 0
ModuleBegins known name n text = (m : NotedModule) × IsModuleOf known name m × BeginsAs n text (file_of m)

-- A law: where no module is read, a module's file begins as the file does up to the line before, and none up to the line.
abbrev pub ModuleFaultsAreFirst : Type 0
ModuleFaultsAreFirst = (known : Option (Option (List ℕ))) (name file : List ℕ) (line : ℕ) →
    IsFineNote known → is_identifier name ≡ true → fits_name name ≡ true → module_in known name file ≡ stuck line →
    (1 ≤ line) × ModuleBegins known name (line - 1) file × (ModuleBegins known name line file → ⊥)

-- A law: a project is read back from its files.
abbrev pub ProjectsAreRead : Type 0
ProjectsAreRead = (N : Project) → IsWritable N → can_be_held N ≡ true → project_in (files_of N) ≡ whole N

-- A law: what is read is a project that its files stand for.
abbrev pub ReadFilesStand : Type 0
ReadFilesStand = (N : Project) (files : List (List ℕ × List ℕ)) → project_in files ≡ whole N → IsReadable N × NetText N files

-- A law: where no project is read, the place is that of the first fault.
abbrev pub FaultsAreFirst : Type 0
FaultsAreFirst = (files : List (List ℕ × List ℕ)) (file line : ℕ) → project_in files ≡ faulty file line → IsFirstFault files file line

-- A law: files have one first fault at most.
abbrev pub OneFirstFault : Type 0
OneFirstFault = (files : List (List ℕ × List ℕ)) (k n j m : ℕ) → IsFirstFault files k n → IsFirstFault files j m → (k ≡ j) × (n ≡ m)

-- A law: files with a first fault stand for no project that can be read back.
abbrev pub FaultyFilesStandForNone : Type 0
FaultyFilesStandForNone = (files : List (List ℕ × List ℕ)) (k n : ℕ) → IsFirstFault files k n → (N : Project) → IsReadable N → files_of N ≡ files → ⊥
