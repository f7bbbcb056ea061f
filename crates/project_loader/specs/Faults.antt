-- For which fault a held project is refused.
use Rattle.std.specs.Prelude.{◌≡◌, ℕ, zero, suc, ◌+◌, ◌<◌, ◌≤◌, List, ◌∷◌, map, take, Some, None, slice_get}
use Rattle.up_base.specs.Outside.{Files}
use Rattle.up_base.specs.declared.place.Fault.{Fault}
use Rattle.vb_tree.specs.declared.project.Entry.{Entry}
use Rattle.vb_tree.specs.declared.project.ProjectFile.{ProjectFile}
use Rattle.vb_tree.specs.ProjectLines.{IsFirstFault, lines_of}
use Rattle.project_loader.specs.Texts.{HeldText, IsTooLong, total_limit, size_of, decoded}
use Rattle.project_loader.specs.Modules.{TextFault}
use Rattle.project_loader.specs.Held.{HeldFile, sizes}

abbrev pub fault_at : (file line kind : ℕ) → Fault
fault_at file line kind = record { place = record { file = file; line = line }; kind = kind }

-- the fault of the project file: it is absent or too long, or its text has a first fault
pub data ProjectFault (files : Files) (name : List ℕ) (f : Fault) : Type 0 where
  no_project : files name ≡ None → f ≡ fault_at 0 0 1 → ProjectFault files name f
  long_project : IsTooLong files name → f ≡ fault_at 0 0 3 → ProjectFault files name f
  project_line : (bytes : List ℕ) → HeldText files name bytes → f.place.file ≡ 0 → IsFirstFault (lines_of (decoded bytes)) f.place.line f.kind → ProjectFault files name f

-- The fault of the file of an entry, of this number: it is absent, or too long by itself, or too long with the bytes that
-- count before it, each at the entry's line; or its text has a first fault.
pub data EntryFault (files : Files) (before number : ℕ) (entry : Entry) (f : Fault) : Type 0 where
  no_module : files entry.file ≡ None → f ≡ fault_at 0 entry.line 2 → EntryFault files before number entry f
  long_module : IsTooLong files entry.file → f ≡ fault_at 0 entry.line 3 → EntryFault files before number entry f
  long_together : (bytes : List ℕ) → HeldText files entry.file bytes → total_limit < before + size_of (files entry.file) → f ≡ fault_at 0 entry.line 3 → EntryFault files before number entry f
  module_line : (bytes : List ℕ) → HeldText files entry.file bytes → before + size_of (files entry.file) ≤ total_limit → TextFault entry number (decoded bytes) f → EntryFault files before number entry f

-- the fault of the file that is read k-th, from 0: the project file, then the entries' files in order
abbrev pub FileFault : Files → (name : List ℕ) → (k : ℕ) → Fault → Type 0
FileFault files name zero f = ProjectFault files name f
FileFault files name (suc k) f =
    (file : ProjectFile) × HeldFile files name file
    × (entry : Entry) × (slice_get file.entries k ≡ Some entry)
    × EntryFault files (size_of (files name) + sizes files (take k file.entries)) (suc k) entry f

-- the name of the file of a number: 0 is the project file, k the file of the k-th entry
abbrev pub file_names : (name : List ℕ) → List Entry → List (List ℕ)
file_names name entries = name ∷ map (λ (e : Entry). e.file) entries

abbrev pub IsNameOf : Files → (name : List ℕ) → (number : ℕ) → (said : List ℕ) → Type 0
IsNameOf files name zero said = said ≡ name
IsNameOf files name (suc k) said = (file : ProjectFile) × HeldFile files name file × (slice_get (file_names name file.entries) (suc k) ≡ Some said)

-- The first fault of the project under a name, and the file that it is said of: no file that is read earlier has one.
pub record FirstFault (files : Files) (name said : List ℕ) (f : Fault) : Type 0 where
  pub read : ℕ
  pub fault : FileFault files name read f
  pub first : (k : ℕ) (g : Fault) → FileFault files name k g → read ≤ k
  pub is_said : IsNameOf files name f.place.file said
