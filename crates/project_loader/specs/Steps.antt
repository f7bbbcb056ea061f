-- What the steps of a loading come to.
use Rattle.std.specs.Prelude.{◌≡◌, ◌⊎◌, ℕ, ◌+◌, ◌≤◌, ◌==◌, if◌then◌else◌, List, [], ◌∷◌, ◌++◌, map, length, Option, IfSome, None, Result, Ok, Err}
use Rattle.up_base.specs.Outside.{Files, IfTold}
use Rattle.up_base.specs.declared.place.Fault.{Fault}
use Rattle.up_base.specs.declared.place.ReadFail.{ReadFail}
use Rattle.up_base.specs.declared.place.ReadFail.TheVariants as fail
use Rattle.vb_tree.specs.declared.project.Entry.{Entry}
use Rattle.vb_tree.specs.ProjectLines.{IsFirstFault, lines_of}
use Rattle.vb_tree.specs.Tree.{Module}
use Rattle.vb_tree.specs.View.{module_of}
use Rattle.project_loader.specs.declared.loading.LoadFail.{LoadFail}
use Rattle.project_loader.specs.declared.loading.LoadFail.TheVariants as load
use Rattle.project_loader.specs.declared.modules.ModuleList.{ModuleList}
use Rattle.project_loader.specs.declared.texts.Stop.{Stop}
use Rattle.project_loader.specs.declared.texts.Stop.TheVariants as stop
use Rattle.project_loader.specs.Texts.{IsTooLong, total_limit, size_of, decoded}
use Rattle.project_loader.specs.Modules.{TextIsModule}
use Rattle.project_loader.specs.Held.{HeldEntry, HeldEntries, AreModules, sizes}
use Rattle.project_loader.specs.Faults.{fault_at, EntryFault}

-- where the stop is a fault, P holds of that
abbrev pub IfFault : Stop → (Fault → Type 0) → Type 0
IfFault (stop.Fault f) P = P f
IfFault stop.Failed P = Unit {0}
IfFault stop.Mem P = Unit {0}

abbrev pub OnStop : {T : Type 0} → Result T Stop → (Fault → Type 0) → Type 0
OnStop (Ok x) P = Unit {0}
OnStop (Err s) P = IfFault s P

-- why a file was not loaded whose text was not read
abbrev pub stop_of : ReadFail → Stop
stop_of (fail.Fault f) = stop.Fault f
stop_of fail.Mem = stop.Mem

-- where a reading answers a fault, P holds of that
abbrev pub OnFault : {T : Type 0} → Result T ReadFail → (Fault → Type 0) → Type 0
OnFault (Ok x) P = Unit {0}
OnFault (Err (fail.Fault f)) P = P f
OnFault (Err fail.Mem) P = Unit {0}

-- the fault of a file that is absent or too long, at a line of the project file
abbrev pub UnreadFault : Files → (name : List ℕ) → (line absent : ℕ) → Fault → Type 0
UnreadFault files name line absent f =
    ((files name ≡ None) × (f ≡ fault_at 0 line absent)) ⊎ (IsTooLong files name × (f ≡ fault_at 0 line 3))

-- the first fault of the text of a project file
abbrev pub TextFileFault : List ℕ → Fault → Type 0
TextFileFault text f = (f.place.file ≡ 0) × IsFirstFault (lines_of text) f.place.line f.kind

-- what is answered behind a lexical fault, by what the lines before it are read as
abbrev pub before_or_lexical : Fault → Fault → ReadFail
before_or_lexical lexical f = if f.kind == 12 then fail.Fault lexical else fail.Fault f

abbrev pub first_of : {T : Type 0} → Fault → Result T ReadFail → ReadFail
first_of lexical (Ok x) = fail.Fault lexical
first_of lexical (Err (fail.Fault f)) = before_or_lexical lexical f
first_of lexical (Err fail.Mem) = fail.Mem

-- one more entry's module is read, and its bytes are counted
pub record TakesEntry (held : Option Files) (entry : Entry) (old new : ModuleList) : Type 0 where
  pub m : Module
  pub modules : map module_of new.modules ≡ map module_of old.modules ++ m ∷ []
  pub count : new.count ≡ old.count + 1
  pub within : new.bytes ≤ total_limit
  pub text : (bytes : List ℕ) × TextIsModule entry (old.count + 1) (decoded bytes) m
  pub told : IfSome held (λ files. HeldEntry files old.bytes (old.count + 1) entry m × (new.bytes ≡ old.bytes + size_of (files entry.file)))

-- the files of entries are read, where so many bytes count before them
pub record HasTaken (held : Option Files) (before : ℕ) (entries : List Entry) (list : ModuleList) : Type 0 where
  pub count : list.count ≡ length entries
  pub within : list.bytes ≤ total_limit
  pub texts : AreModules 1 entries (map module_of list.modules)
  pub told : IfSome held (λ files. HeldEntries files before 1 entries (map module_of list.modules) × (list.bytes ≡ before + sizes files entries))

-- the fault of the file of one of the entries, where those before it hold modules, and the name of the file that it is said of
pub record EntryRefused (files : Files) (name : List ℕ) (before : ℕ) (entries : List Entry) (said : List ℕ) (f : Fault) : Type 0 where
  pub earlier : List Entry
  pub entry : Entry
  pub later : List Entry
  pub parts : earlier ++ entry ∷ later ≡ entries
  pub modules : List Module
  pub held : HeldEntries files before 1 earlier modules
  pub fault : EntryFault files (before + sizes files earlier) (length earlier + 1) entry f
  pub is_said : said ≡ (if f.place.file == 0 then name else entry.file)

-- the file of one of the entries was the last that was read
pub record EntryFailed (calls_before calls_after : Option ℕ) (entries : List Entry) (said : List ℕ) : Type 0 where
  pub earlier : List Entry
  pub entry : Entry
  pub later : List Entry
  pub parts : earlier ++ entry ∷ later ≡ entries
  pub reads : IfTold calls_before calls_after (λ b a. a ≡ b + (length earlier + 1))
  pub is_said : said ≡ entry.file

-- why the entries of a project under a name were not all loaded
abbrev pub StopsAtEntry : Option Files → (calls_before calls_after : Option ℕ) → (name : List ℕ) → (before : ℕ) → List Entry → LoadFail → Type 0
StopsAtEntry held b a name before entries (load.Refused said f) = IfSome held (λ files. EntryRefused files name before entries said f)
StopsAtEntry held b a name before entries (load.Failed said) = EntryFailed b a entries said
StopsAtEntry held b a name before entries load.Mem = Unit {0}

-- what is answered to a stop, with the name of the file that it is said of
abbrev pub fail_of : (said : List ℕ) → Stop → LoadFail
fail_of said (stop.Fault f) = load.Refused said f
fail_of said stop.Failed = load.Failed said
fail_of said stop.Mem = load.Mem

-- the name of the file that a stop at an entry is said of
abbrev pub said_of : (name entry_file : List ℕ) → Stop → List ℕ
said_of name entry_file (stop.Fault f) = if f.place.file == 0 then name else entry_file
said_of name entry_file stop.Failed = entry_file
said_of name entry_file stop.Mem = entry_file
