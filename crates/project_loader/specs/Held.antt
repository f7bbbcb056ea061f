-- The project that a folder holds.
use Rattle.std.specs.Prelude.{◌≡◌, ℕ, ◌+◌, ◌≤◌, List, [], ◌∷◌, sum_by}
use Rattle.up_base.specs.Outside.{Files}
use Rattle.vb_tree.specs.declared.project.Entry.{Entry}
use Rattle.vb_tree.specs.declared.project.ProjectFile.{ProjectFile}
use Rattle.vb_tree.specs.Tree.{Module, Project}
use Rattle.vb_tree.specs.ProjectLines.{HasNoFault, lines_of, project_file}
use Rattle.project_loader.specs.Texts.{HeldText, total_limit, size_of, decoded}
use Rattle.project_loader.specs.Modules.{TextIsModule}

-- the text of a project file says this and has no fault
pub record TextIsFile (text : List ℕ) (file : ProjectFile) : Type 0 where
  pub right : HasNoFault (lines_of text)
  pub says : file ≡ project_file text

-- the folder holds a project file under this name that says this
pub record HeldFile (files : Files) (name : List ℕ) (file : ProjectFile) : Type 0 where
  pub bytes : List ℕ
  pub held : HeldText files name bytes
  pub is : TextIsFile (decoded bytes) file

-- how many bytes the files of entries have, each counted as often as it is named
abbrev pub sizes : Files → List Entry → ℕ
sizes files entries = sum_by (λ (e : Entry). size_of (files e.file)) entries

-- The file of an entry, of this number, holds the module, and with the files that count before it isn't too much.
pub record HeldEntry (files : Files) (before number : ℕ) (entry : Entry) (m : Module) : Type 0 where
  pub bytes : List ℕ
  pub held : HeldText files entry.file bytes
  pub within : before + size_of (files entry.file) ≤ total_limit
  pub is : TextIsModule entry number (decoded bytes) m

-- the files of entries, numbered from k, hold the modules in order; so many bytes count before them
abbrev pub HeldEntries : Files → (before k : ℕ) → List Entry → List Module → Type 0
HeldEntries files before k [] [] = Unit {0}
HeldEntries files before k [] (m ∷ ms) = ⊥
HeldEntries files before k (entry ∷ entries) [] = ⊥
HeldEntries files before k (entry ∷ entries) (m ∷ ms) =
    HeldEntry files before k entry m × HeldEntries files (before + size_of (files entry.file)) (k + 1) entries ms

-- the folder holds a project under the name of its file: what that says, and for each of its entries a module
pub record HeldProject (files : Files) (name : List ℕ) (P : Project) : Type 0 where
  pub file : HeldFile files name P.file
  pub modules : HeldEntries files (size_of (files name)) 1 P.file.entries P.modules

-- bytes of modules, numbered from k, by their entries
abbrev pub AreModules : (k : ℕ) → List Entry → List Module → Type 0
AreModules k [] [] = Unit {0}
AreModules k [] (m ∷ ms) = ⊥
AreModules k (entry ∷ entries) [] = ⊥
AreModules k (entry ∷ entries) (m ∷ ms) = ((bytes : List ℕ) × TextIsModule entry k (decoded bytes) m) × AreModules (k + 1) entries ms

-- a project of the grammar: there are bytes that it is read from
pub record IsOfGrammar (P : Project) : Type 0 where
  pub bytes : List ℕ
  pub file : TextIsFile (decoded bytes) P.file
  pub modules : AreModules 1 P.file.entries P.modules
