-- The loading of a project: what is known where it stops, and where it ends.
use Rattle.std.proofs.Common.{◌≡◌, ◌⊎◌, inl, inr, ℕ, zero, suc, ◌+◌, ◌<◌, ◌≤◌, false, ◌==◌, if◌then◌else◌, List, [], ◌∷◌, ◌++◌, map, take, length, slice_get, Option, Some, None, Result, Ok, Err, IfSome, refl, sym, ap, ◌∙◌, subst, arith}
use Rattle.std.proofs.Math.Nat.{lt_of_not-le}
use Rattle.std.proofs.lemmas.Bool.Decides.{nat_tests}
use Rattle.std.proofs.lemmas.List.{length-map}
use Rattle.up_base.specs.Outside.{Files, IfTold, CountsCall}
use Rattle.up_base.specs.declared.place.Fault.{Fault}
use Rattle.vb_tree.specs.declared.project.Entry.{Entry}
use Rattle.vb_tree.specs.declared.project.ProjectFile.{ProjectFile}
use Rattle.vb_tree.specs.Tree.{Module}
use Rattle.project_loader.specs.declared.loading.LoadFail.{LoadFail}
use Rattle.project_loader.specs.declared.loading.LoadFail.TheVariants as load
use Rattle.project_loader.specs.declared.texts.Stop.{Stop}
use Rattle.project_loader.specs.declared.texts.Stop.TheVariants as stop
use Rattle.project_loader.specs.Texts.{HeldText, size_of, decoded}
use Rattle.project_loader.specs.Held.{TextIsFile, HeldFile, HeldEntries, HeldProject, AreModules, IsOfGrammar, sizes}
use Rattle.project_loader.specs.Faults.{ProjectFault, no_project, long_project, project_line, EntryFault, no_module, long_module, long_together, module_line, FileFault, FirstFault, IsNameOf, file_names}
use Rattle.project_loader.specs.Loading.{StopsLoading, ReadsAll}
use Rattle.project_loader.specs.Steps.{IfFault, OnStop, UnreadFault, TextFileFault, EntryRefused, EntryFailed, StopsAtEntry, fail_of}
use Rattle.project_loader.proofs.Places.{text_fault_in}
use Rattle.project_loader.proofs.Unique.{file_once, file_or_fault, entries_or_fault}

-- ---- the project file

pub unread_project : (files : Files) (name : List ℕ) (f : Fault) → UnreadFault files name 0 1 f → ProjectFault files name f
unread_project files name f (inl h) = no_project h.0 h.1
unread_project files name f (inr h) = long_project h.0 h.1

pub size_held : (files : Files) (name bytes : List ℕ) → HeldText files name bytes → length bytes ≡ size_of (files name)
size_held files name bytes h = sym (ap size_of h.held)

pub file_held : (held : Option Files) (name bytes : List ℕ) (file : ProjectFile) → IfSome held (λ files. HeldText files name bytes) → TextIsFile (decoded bytes) file → IfSome held (λ files. HeldFile files name file × (length bytes ≡ size_of (files name)))
file_held None name bytes file h is = tt
file_held (Some files) name bytes file h is = (record { bytes = bytes; held = h; is = is }, size_held files name bytes h)

-- the text of the project file has a fault
pub file_stopped : {T : Type 0} (held : Option Files) (name bytes : List ℕ) (result : Result T Stop) → IfSome held (λ files. HeldText files name bytes) → OnStop result (TextFileFault (decoded bytes)) → IfSome held (λ files. OnStop result (ProjectFault files name))
file_stopped None name bytes result h fault = tt
file_stopped (Some files) name bytes (Ok x) h fault = tt
file_stopped (Some files) name bytes (Err (stop.Fault f)) h fault = project_line bytes h fault.0 fault.1
file_stopped (Some files) name bytes (Err stop.Failed) h fault = tt
file_stopped (Some files) name bytes (Err stop.Mem) h fault = tt

project_fault_file : (files : Files) (name : List ℕ) (f : Fault) → ProjectFault files name f → f.place.file ≡ 0
project_fault_file files name f (no_project absent is) = ap (λ x. x.place.file) is
project_fault_file files name f (long_project long is) = ap (λ x. x.place.file) is
project_fault_file files name f (project_line bytes held in_file first) = in_file

pub first_in_project : (files : Files) (name : List ℕ) (f : Fault) → ProjectFault files name f → FirstFault files name name f
first_in_project files name f h = record {
  read = 0;
  fault = h;
  first = λ k g later. omega arith;
  is_said = subst (λ n. IsNameOf files name n name) (sym (project_fault_file files name f h)) refl;
}

one_read : (b m : Option ℕ) (name : List ℕ) → CountsCall b m → IfTold b m (λ x y. (k : ℕ) × (y ≡ x + (k + 1)) × (slice_get (name ∷ []) k ≡ Some name))
one_read b None name counts = tt
one_read None (Some y) name counts = counts
one_read (Some x) (Some y) name counts = (0, counts, refl)

pub stops_first : (held : Option Files) (b m : Option ℕ) (name : List ℕ) (s : Stop) (fail : LoadFail) → CountsCall b m → IfSome held (λ files. IfFault s (ProjectFault files name)) → (fail ≡ fail_of name s) ⊎ (fail ≡ load.Mem) → StopsLoading held b m name fail
stops_first held b m name s fail counts h (inr mem) = subst (StopsLoading held b m name) (sym mem) tt
stops_first held b m name s fail counts h (inl is) = subst (StopsLoading held b m name) (sym is) (by s h)
  where
    refused : (o : Option Files) (f : Fault) → IfSome o (λ files. ProjectFault files name f) → IfSome o (λ files. FirstFault files name name f)
    refused None f p = tt
    refused (Some files) f p = first_in_project files name f p

    by : (s : Stop) → IfSome held (λ files. IfFault s (ProjectFault files name)) → StopsLoading held b m name (fail_of name s)
    by (stop.Fault f) p = refused held f p
    by stop.Failed p = (name ∷ [], inl refl, one_read b m name counts)
    by stop.Mem p = tt

-- ---- an entry among the others

at_middle : (xs : List Entry) (e : Entry) (ys : List Entry) → slice_get (xs ++ e ∷ ys) (length xs) ≡ Some e
at_middle [] e ys = refl
at_middle (x ∷ xs) e ys = at_middle xs e ys

name_middle : (xs : List Entry) (e : Entry) (ys : List Entry) → slice_get (map (λ (e : Entry). e.file) (xs ++ e ∷ ys)) (length xs) ≡ Some e.file
name_middle [] e ys = refl
name_middle (x ∷ xs) e ys = name_middle xs e ys

take_front : (xs ys : List Entry) (i : ℕ) → i ≤ length xs → take i (xs ++ ys) ≡ take i xs
take_front xs ys zero h = refl
take_front [] ys (suc i) h = absurd (omega (arith, h))
take_front (x ∷ xs) ys (suc i) h = ap (λ zs. x ∷ zs) (take_front xs ys i (omega (arith, h)))

take_whole : (xs : List Entry) → take (length xs) xs ≡ xs
take_whole [] = refl
take_whole (x ∷ xs) = ap (λ zs. x ∷ zs) (take_whole xs)

at_front : (xs ys : List Entry) (i : ℕ) → i < length xs → slice_get (xs ++ ys) i ≡ slice_get xs i
at_front [] ys i h = absurd (omega (arith, h))
at_front (x ∷ xs) ys zero h = refl
at_front (x ∷ xs) ys (suc i) h = at_front xs ys i (omega (arith, h))

before_middle : (xs : List Entry) (e : Entry) (ys : List Entry) → take (length xs) (xs ++ e ∷ ys) ≡ xs
before_middle xs e ys = take_front xs (e ∷ ys) (length xs) (omega arith) ∙ take_whole xs

entry_fault_file : (files : Files) (before n : ℕ) (entry : Entry) (f : Fault) → EntryFault files before n entry f → (f.place.file ≡ 0) ⊎ (f.place.file ≡ n)
entry_fault_file files before n entry f (no_module absent is) = inl (ap (λ x. x.place.file) is)
entry_fault_file files before n entry f (long_module long is) = inl (ap (λ x. x.place.file) is)
entry_fault_file files before n entry f (long_together bytes held long is) = inl (ap (λ x. x.place.file) is)
entry_fault_file files before n entry f (module_line bytes held within fault) = inr (text_fault_in entry n (decoded bytes) f fault)

never_zero : (n : ℕ) → (suc n == 0) ≡ false
never_zero n = grind (arith, nat_tests)

-- ---- the first fault at an entry

-- no file before it has a fault
refused_first : (files : Files) (name : List ℕ) (file : ProjectFile) (said : List ℕ) (f : Fault) → HeldFile files name file → (h : EntryRefused files name (size_of (files name)) file.entries said f) → (k : ℕ) (g : Fault) → FileFault files name k g → suc (length h.earlier) ≤ k
refused_first files name file said f held h zero g fault = absurd (file_or_fault files name file g held fault)
refused_first files name file said f held h (suc j) g fault =
    let above : length h.earlier < suc j = lt_of_not-le {n = suc j} {m = length h.earlier} refuted in
    omega (arith, above)
  where
    refuted : suc j ≤ length h.earlier → ⊥
    refuted low =
        let size = size_of (files name) in
        let same : fault.0.entries ≡ h.earlier ++ h.entry ∷ h.later = ap (λ (x : ProjectFile). x.entries) (file_once files name fault.0 file fault.1 held) ∙ sym h.parts in
        let below : j < length h.earlier = omega (arith, low) in
        let within : j ≤ length h.earlier = omega (arith, low) in
        let at : slice_get h.earlier j ≡ Some fault.2 = sym (at_front h.earlier (h.entry ∷ h.later) j below) ∙ ap (λ (es : List Entry). slice_get es j) (sym same) ∙ fault.3 in
        let front : take j fault.0.entries ≡ take j h.earlier = ap (λ (es : List Entry). take j es) same ∙ take_front h.earlier (h.entry ∷ h.later) j within in
        let number : suc j ≡ 1 + j = omega arith in
        entries_or_fault files size 1 h.earlier h.modules j fault.2 g h.held at
        (subst (λ (es : List Entry). EntryFault files (size + sizes files es) (1 + j) fault.2 g) front
        (subst (λ n. EntryFault files (size + sizes files (take j fault.0.entries)) n fault.2 g) number fault.4))

-- the fault is that of the entry's file, by its number
refused_fault : (files : Files) (name : List ℕ) (file : ProjectFile) (said : List ℕ) (f : Fault) → HeldFile files name file → (h : EntryRefused files name (size_of (files name)) file.entries said f) → FileFault files name (suc (length h.earlier)) f
refused_fault files name file said f held h =
    let size = size_of (files name) in
    let at : slice_get file.entries (length h.earlier) ≡ Some h.entry = ap (λ (es : List Entry). slice_get es (length h.earlier)) (sym h.parts) ∙ at_middle h.earlier h.entry h.later in
    let front : h.earlier ≡ take (length h.earlier) file.entries = sym (ap (λ (es : List Entry). take (length h.earlier) es) (sym h.parts) ∙ before_middle h.earlier h.entry h.later) in
    let number : length h.earlier + 1 ≡ suc (length h.earlier) = omega arith in (
      file,
      held,
      h.entry,
      at,
      subst (λ n. EntryFault files (size + sizes files (take (length h.earlier) file.entries)) n h.entry f) number
          (subst (λ (es : List Entry). EntryFault files (size + sizes files es) (length h.earlier + 1) h.entry f) front h.fault),
    )

refused_said : (files : Files) (name : List ℕ) (file : ProjectFile) (said : List ℕ) (f : Fault) → HeldFile files name file → EntryRefused files name (size_of (files name)) file.entries said f → IsNameOf files name f.place.file said
refused_said files name file said f held h = by (entry_fault_file files (size_of (files name) + sizes files h.earlier) (length h.earlier + 1) h.entry f h.fault)
  where
    by : (f.place.file ≡ 0) ⊎ (f.place.file ≡ length h.earlier + 1) → IsNameOf files name f.place.file said
    by (inl e) = subst (λ n. IsNameOf files name n said) (sym e) (h.is_said ∙ ap (λ n. if n == 0 then name else h.entry.file) e)
    by (inr e) =
        let number : f.place.file ≡ suc (length h.earlier) = omega (arith, e) in
        let is : said ≡ h.entry.file = h.is_said ∙ ap (λ n. if n == 0 then name else h.entry.file) number ∙ ap (λ b. if b then name else h.entry.file) (never_zero (length h.earlier)) in
        let at : slice_get (map (λ (e : Entry). e.file) file.entries) (length h.earlier) ≡ Some said =
        ap (λ (es : List Entry). slice_get (map (λ (e : Entry). e.file) es) (length h.earlier)) (sym h.parts) ∙ name_middle h.earlier h.entry h.later ∙ ap Some (sym is) in
        subst (λ n. IsNameOf files name n said) (sym number) (file, held, at)

pub first_at_entry : (files : Files) (name : List ℕ) (file : ProjectFile) (said : List ℕ) (f : Fault) → HeldFile files name file → EntryRefused files name (size_of (files name)) file.entries said f → FirstFault files name said f
first_at_entry files name file said f held h = record {
  read = suc (length h.earlier);
  fault = refused_fault files name file said f held h;
  first = refused_first files name file said f held h;
  is_said = refused_said files name file said f held h;
}

-- ---- the whole project

-- what is told of the project file
abbrev FileTold : Option Files → List ℕ → ProjectFile → ℕ → Type 0
FileTold held name file before = IfSome held (λ files. HeldFile files name file × (before ≡ size_of (files name)))

file_told : (held : Option Files) (name : List ℕ) (file : ProjectFile) (before : ℕ) → FileTold held name file before → IfSome held (λ files. HeldFile files name file)
file_told None name file before h = tt
file_told (Some files) name file before h = h.0

entry_read : (b m a : Option ℕ) (name : List ℕ) (entries : List Entry) (said : List ℕ) → CountsCall b m → EntryFailed m a entries said → IfTold b a (λ x y. (k : ℕ) × (y ≡ x + (k + 1)) × (slice_get (file_names name entries) k ≡ Some said))
entry_read b m a name entries said first h = by b m a first h.reads
  where
    at : slice_get (map (λ (e : Entry). e.file) entries) (length h.earlier) ≡ Some said
    at = ap (λ (es : List Entry). slice_get (map (λ (e : Entry). e.file) es) (length h.earlier)) (sym h.parts) ∙ name_middle h.earlier h.entry h.later ∙ ap Some (sym h.is_said)

    by : (b m a : Option ℕ) → CountsCall b m → IfTold m a (λ x y. y ≡ x + (length h.earlier + 1)) → IfTold b a (λ x y. (k : ℕ) × (y ≡ x + (k + 1)) × (slice_get (file_names name entries) k ≡ Some said))
    by b m None p q = tt
    by b None (Some y) p q = absurd q
    by None (Some z) (Some y) p q = p
    by (Some x) (Some z) (Some y) p q = (suc (length h.earlier), omega (arith, p, q), at)

pub stops_later : (held : Option Files) (b m a : Option ℕ) (name : List ℕ) (file : ProjectFile) (before : ℕ) (fail : LoadFail) → CountsCall b m → FileTold held name file before → StopsAtEntry held m a name before file.entries fail → StopsLoading held b a name fail
stops_later None b m a name file before (load.Refused said f) first told h = tt
stops_later (Some files) b m a name file before (load.Refused said f) first told h =
    first_at_entry files name file said f told.0 (subst (λ n. EntryRefused files name n file.entries said f) told.1 h)
stops_later held b m a name file before (load.Failed said) first told h =
    (file_names name file.entries, inr (file, refl, file_told held name file before told), entry_read b m a name file.entries said first h)
stops_later held b m a name file before load.Mem first told h = tt

pub reads_whole : (b m a : Option ℕ) (name : List ℕ) (entries : List Entry) → CountsCall b m → IfTold m a (λ x y. y ≡ x + length entries) → ReadsAll b a (file_names name entries)
reads_whole b m None name entries first h = tt
reads_whole b None (Some y) name entries first h = absurd h
reads_whole None (Some z) (Some y) name entries first h = first
reads_whole (Some x) (Some z) (Some y) name entries first h =
    let count = length-map entries (λ (e : Entry). e.file) in
    omega (arith, first, h, count)

pub held_whole : (held : Option Files) (name : List ℕ) (file : ProjectFile) (before : ℕ) (modules : List Module) → FileTold held name file before → IfSome held (λ files. HeldEntries files before 1 file.entries modules) → IfSome held (λ files. HeldProject files name (record { file = file; modules = modules }))
held_whole None name file before modules told h = tt
held_whole (Some files) name file before modules told h =
    record { file = told.0; modules = subst (λ n. HeldEntries files n 1 file.entries modules) told.1 h }

pub of_grammar : (bytes : List ℕ) (file : ProjectFile) (modules : List Module) → TextIsFile (decoded bytes) file → AreModules 1 file.entries modules → IsOfGrammar (record { file = file; modules = modules })
of_grammar bytes file modules is h = record { bytes = bytes; file = is; modules = h }
